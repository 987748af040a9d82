use Rattle.bytes_operands.proofs.Loops.{again, gone}
use Rattle.std.proofs.Common.{arith}
use Rattle.bytes_operands.proofs.values_end.Goals as goal

pub loop-j-preserved : goal.loop-j-preserved
loop-j-preserved c = (again _ _ _ _ _ _ c.loop-j.invariant.0 c.loop-j-test.true (simp c.value_end.ensures.0), omega arith)

pub returns : goal.returns
returns c = (gone _ _ _ _ _ c.loop-j.invariant.0 c.loop-j-test.false, omega arith)
