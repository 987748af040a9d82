use Rattle.mir.specs.Kind.{number_of_kind}
use Rattle.shelf_marks.proofs.Backwards.{putting_again, putting_done, dests_marked}
use Rattle.std.proofs.Common.{rules}
use Rattle.shelf_reason2.proofs.mark_dests.Goals as goal

pub loop-j-preserved : goal.loop-j-preserved
loop-j-preserved c = putting_again _ _ _ _ _ _ _ _ c.loop-j.invariant c.loop-j-test.true c.u16_at-v.ensures c.put.ensures (search rules)

pub returns : goal.returns
returns c =
    let a = c.args in
    dests_marked a.t.now (number_of_kind a.kind) a.marks.now c.own_fields-u.ensures c.dest_first-first.ensures.0
    c.dest_count-n.ensures (putting_done _ _ _ _ _ _ c.loop-j.invariant c.loop-j-test.false)
