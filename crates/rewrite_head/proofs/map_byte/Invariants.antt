use Rattle.rewrite_head.proofs.Bits.{Bits}
use Rattle.rewrite_head.proofs.map_byte.Given as goal

abbrev pub invariant-loop-k : goal.invariant-loop-k
invariant-loop-k l = Bits l.values l.v l.byte l.k
