use Rattle.rewrite_patch.proofs.Steps.{counted, counted_all}
use Rattle.rewrite_patch.proofs.index_count.Goals as goal

pub loop-i-preserved : goal.loop-i-preserved
loop-i-preserved c =
    let e = c.projection_end-here.ensures in
    counted c.is_index.result c.loop-i.invariant c.loop-i-test.true c.is_index.ensures e.0 e.1

pub returns : goal.returns
returns c = counted_all c.loop-i.invariant c.loop-i-test.false
