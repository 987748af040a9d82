use Rattle.fold_cross.proofs.Crossing.{Building}
use Rattle.fold_cross.proofs.cross_builds.Given as goal

abbrev pub invariant-loop-j : goal.invariant-loop-j
invariant-loop-j l =
    Building l.known l.copies l.fn.k.0 l.slots l.initial.family l.family l.initial.marks l.marks l.members l.j
