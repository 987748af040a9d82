use Rattle.std.proofs.Common.{arith}
use Rattle.rewrite_patch.proofs.Steps.{placed, passed, passed_all}
use Rattle.rewrite_patch.proofs.index_place.Goals as goal

pub returns-then-index-left : goal.returns-then-index-left
returns-then-index-left c = (placed c.loop-i.invariant c.loop-i-test.true c.is_index-index.result c.is_index-index.ensures c.if-index-left.true, omega (arith, c.loop-i.invariant.near))

pub loop-i-preserved : goal.loop-i-preserved
loop-i-preserved c =
    let e = c.projection_end-here.ensures in
    passed c.is_index-index.result c.loop-i.invariant c.loop-i-test.true c.is_index-index.ensures c.if-index-left.false c.saturating_sub-left.ensures e.0 e.1

pub returns : goal.returns
returns c = (passed_all c.loop-i.invariant c.loop-i-test.false, omega (arith, c.loop-i.invariant.near))
