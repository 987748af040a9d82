use Rattle.fold_family.proofs.Finding.{Going}
use Rattle.fold_family.proofs.family.Given as goal

abbrev pub invariant-loop-turns : goal.invariant-loop-turns
invariant-loop-turns l = Going l.copies l.shape l.fn.v.0 l.fn.marks l.fn.members l.q l.marks l.members l.turns
