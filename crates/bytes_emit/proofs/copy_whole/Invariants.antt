use Rattle.bytes_emit.proofs.Copied.{Copied}
use Rattle.bytes_emit.proofs.copy_whole.Given as goal

abbrev pub invariant-loop-i : goal.invariant-loop-i
invariant-loop-i l = Copied l.s l.initial.out l.out l.to l.i
