use Prim.Native.Nat.{◌-◌}
use Rattle.shelf_marks.proofs.Bases.{Based}
use Rattle.shelf_reason3.proofs.mark_block.Given as goal

abbrev pub invariant-loop-slot : goal.invariant-loop-slot
invariant-loop-slot l = Based l.code l.fn.k.0 l.initial.marks l.marks (l.slot - l.initial.slot)
