use Rattle.rewrite_chains.proofs.Booleans.{Passed}
use Rattle.rewrite_chains.proofs.no_boolean.Given as goal

abbrev pub invariant-loop-k : goal.invariant-loop-k
invariant-loop-k l = Passed l.code.bounds l.t l.k
