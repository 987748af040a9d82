use Rattle.std.proofs.Common.{arith}
use Rattle.rewrite_parts.proofs.Loops.{laying, laid_more}
use Rattle.rewrite_parts.proofs.put_places.Goals as goal

pub loop-i-init : goal.loop-i-init
loop-i-init c = laying _ _ _ _ _ _

pub loop-i-preserved : goal.loop-i-preserved
loop-i-preserved c =
    laid_more c.loop-i.invariant c.loop-i-test.true (omega arith) c.set_place.ensures c.value_end-here.ensures.0 c.value_end-here.ensures.1
