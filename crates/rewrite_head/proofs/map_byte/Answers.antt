use Rattle.rewrite_head.proofs.Bits.{bits_again}
use Rattle.rewrite_head.proofs.map_byte.Goals as goal

pub loop-k-preserved : goal.loop-k-preserved
loop-k-preserved c =
    bits_again _ _ _ _ c.loop-k.invariant c.loop-k-test.true _ c.bit_of.ensures.upper_bound c.bit_of.ensures.of_recorded
