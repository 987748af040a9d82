use Rattle.bytes_operands.proofs.Loops.{again, gone}
use Rattle.std.proofs.Common.{arith}
use Rattle.bytes_operands.proofs.projections_end.Goals as goal

pub loop-i-preserved : goal.loop-i-preserved
loop-i-preserved c = (again _ _ _ _ _ _ c.loop-i.invariant.0 c.loop-i-test.true c.projection_end-here.ensures.0, omega arith)

pub returns : goal.returns
returns c = (gone _ _ _ _ _ c.loop-i.invariant.0 c.loop-i-test.false, omega arith)
