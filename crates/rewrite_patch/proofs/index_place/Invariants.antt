use Rattle.rewrite_patch.proofs.Steps.{Placing}
use Rattle.rewrite_patch.proofs.index_place.Given as goal

abbrev pub invariant-loop-i : goal.invariant-loop-i
invariant-loop-i l = Placing l.t l.k l.j l.at l.here l.left l.i
