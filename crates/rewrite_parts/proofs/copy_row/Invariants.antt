use Rattle.rewrite_parts.proofs.Loops.{Copying}
use Rattle.rewrite_parts.proofs.copy_row.Given as goal

abbrev pub invariant-loop-i : goal.invariant-loop-i
invariant-loop-i l = Copying l.initial.rows l.from l.to l.n l.rows l.i
