use Rattle.shelf_marks.proofs.Backwards.{Backward}
use Rattle.shelf_reason2.proofs.block_ordered.Given as goal

abbrev pub invariant-loop-slot : goal.invariant-loop-slot
invariant-loop-slot l = Backward l.code l.fn.k.0 l.slot-start l.marks l.slot
