use Rattle.std.proofs.Common.{arith}
use Rattle.rewrite_parts.proofs.Loops.{copying, copied_more}
use Rattle.rewrite_parts.proofs.copy_row.Goals as goal

pub loop-i-init : goal.loop-i-init
loop-i-init c = copying _ _ _ _

pub loop-i-preserved : goal.loop-i-preserved
loop-i-preserved c = copied_more c.loop-i.invariant c.loop-i-test.true c.number-place.ensures c.put.ensures

pub returns-clause-row_copied : goal.returns-clause-row_copied
returns-clause-row_copied c = λ p q j h. c.loop-i.invariant.done p q j (omega arith)
