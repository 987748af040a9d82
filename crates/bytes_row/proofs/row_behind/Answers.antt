use Rattle.std.proofs.Common.{arith, rules, sym, ◌≡◌, Err, get_or}
use Rattle.bytes_field.proofs.Sizes.{size_field}
use Rattle.bytes_field.proofs.Laws.{stepped, bytes_within}
use Rattle.bytes_field.specs.Walk.{walk_before, field_walk}
use Rattle.bytes_row.specs.Class.{number_of_class}
use Rattle.bytes_row.specs.declared.class.Class.{Class}
use Rattle.bytes_row.proofs.Rows.{row_again, row_done}
use Rattle.bytes_row.proofs.row_behind.Goals as goal

pub further-requires : goal.further-requires
further-requires c =
    let a = c.args in
    let o = c.loop-c in
    let l = c.read_field-r.new in
    let k = number_of_class (get_or a.row.now o.c-index Class.Dest) in
    omega (
      arith,
      bytes_within a.s.now o.w.size c.read_field-r.result l.seen l.buffer (λ t. field_walk a.b a.many k (walk_before o.seen o.buffer o.w) t) c.behind-t.ensures
          c.read_field-r.ensures (λ t. size_field a.b a.many k (walk_before o.seen o.buffer o.w) t),
    )

pub returns-in_err-w : goal.returns-in_err-w
returns-in_err-w c =
    let a = c.args in
    let o = c.loop-c in
    let l = c.read_field-r.new in
    let k = number_of_class (get_or a.row.now o.c-index Class.Dest) in
    let z : c.from_residual.result ≡ Err c.in_err-w.field-0.0 = search rules in
    rw z (sym (row_again _ _ _ _ _ _ _ o.invariant.3 Class.Dest _ c.loop-c-test.true (stepped a.s.now o.w.size (λ t. field_walk a.b a.many k (walk_before o.seen o.buffer o.w) t) l.seen l.buffer
    c.read_field-r.result c.behind-t.ensures c.read_field-r.ensures (c.in_err-w.ensures l.seen l.buffer))).left)

pub loop-c-preserved : goal.loop-c-preserved
loop-c-preserved c =
    let a = c.args in
    let o = c.loop-c in
    let l = c.read_field-r.new in
    let k = number_of_class (get_or a.row.now o.c-index Class.Dest) in (
      search rules,
      search rules,
      search rules,
      row_again _ _ _ _ _ _ _ o.invariant.3 Class.Dest _ c.loop-c-test.true (stepped a.s.now o.w.size (λ t. field_walk a.b a.many k (walk_before o.seen o.buffer o.w) t) l.seen l.buffer
          c.read_field-r.result c.behind-t.ensures c.read_field-r.ensures (c.in_ok-w.ensures l.seen l.buffer)),
    )

pub returns : goal.returns
returns c = row_done _ _ _ _ _ _ _ c.loop-c.invariant.3 c.loop-c-test.false
