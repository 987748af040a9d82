use Rattle.fold_family.specs.Search.{Storing}
use Rattle.fold_family.proofs.mark_members.Given as goal

abbrev pub invariant-loop-v : goal.invariant-loop-v
invariant-loop-v l = Storing l.members l.v-index l.on l.initial.marks l.marks
