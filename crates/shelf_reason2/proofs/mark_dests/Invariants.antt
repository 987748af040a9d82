use Rattle.shelf_marks.proofs.Backwards.{Putting}
use Rattle.shelf_reason2.proofs.mark_dests.Given as goal

abbrev pub invariant-loop-j : goal.invariant-loop-j
invariant-loop-j l = Putting l.u l.first l.n l.initial.marks l.marks l.j
