use Rattle.fold_cross.proofs.Crossing.{Crossing}
use Rattle.fold_cross.proofs.cross_read.Given as goal

abbrev pub invariant-loop-k : goal.invariant-loop-k
invariant-loop-k l = Crossing l.known l.initial.marks l.marks l.k
