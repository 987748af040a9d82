use Rattle.shelf_marks.proofs.Bases.{Basing}
use Rattle.shelf_reason3.proofs.mark_bases.Given as goal

abbrev pub invariant-loop-k : goal.invariant-loop-k
invariant-loop-k l = Basing l.code l.initial.marks l.marks l.k
