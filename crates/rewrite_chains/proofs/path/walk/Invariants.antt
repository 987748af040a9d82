use Rattle.rewrite_chains.proofs.Walks.{Going}
use Rattle.rewrite_chains.proofs.path.walk.Given as goal

abbrev pub invariant-loop-i : goal.invariant-loop-i
invariant-loop-i l = Going l.code l.t l.parts l.initial.v l.k l.v l.i
