use Rattle.shelf_reason5.proofs.Blocks.{over_start, over_again, over_reads, over_done, told}
use Rattle.shelf_reason5.proofs.reads_no_dropped.Goals as goal

pub loop-k-init : goal.loop-k-init
loop-k-init c = over_start _ _ _ _ _

pub returns-in_default : goal.returns-in_default
returns-in_default c =
    let a = c.args in
    let l = c.loop-k in
    told a.b a.out.now a.at a.dropped.now a.many _ (over_reads a.b a.out.now a.at a.dropped.now a.many l.k l.here
    l.invariant c.loop-k-test.true _ c.walk_block.ensures c.in_default.is)

pub loop-k-preserved : goal.loop-k-preserved
loop-k-preserved c =
    let a = c.args in
    let l = c.loop-k in
    over_again a.b a.out.now a.at a.dropped.now a.many l.k l.here l.invariant c.loop-k-test.true _ c.walk_block.ensures _ c.in-Some.is

pub returns : goal.returns
returns c =
    let a = c.args in
    let l = c.loop-k in
    told a.b a.out.now a.at a.dropped.now a.many _ (over_done a.b a.out.now a.at a.dropped.now a.many l.k l.here l.invariant c.loop-k-test.false)
