use Rattle.rewrite_patch.proofs.Steps.{Counting}
use Rattle.rewrite_patch.proofs.index_count.Given as goal

abbrev pub invariant-loop-i : goal.invariant-loop-i
invariant-loop-i l = Counting l.t l.k l.at l.here l.count l.i
