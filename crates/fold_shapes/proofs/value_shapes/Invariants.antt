use Rattle.fold_shapes.proofs.Values.{Filling}
use Rattle.fold_shapes.proofs.value_shapes.Given as goal

abbrev pub invariant-loop-v : goal.invariant-loop-v
invariant-loop-v l = Filling l.typing l.settings l.initial.shapes l.initial.eligible l.shapes l.eligible l.v
