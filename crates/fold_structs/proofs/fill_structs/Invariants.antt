use Rattle.fold_structs.proofs.Conditions.{Filling}
use Rattle.fold_structs.proofs.fill_structs.Given as goal

abbrev pub invariant-loop-k : goal.invariant-loop-k
invariant-loop-k l = Filling l.code l.slots l.settings l.cross l.initial.structs l.k l.structs
