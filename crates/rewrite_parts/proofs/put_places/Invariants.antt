use Rattle.rewrite_parts.proofs.Loops.{Laying}
use Rattle.rewrite_parts.proofs.put_places.Given as goal

abbrev pub invariant-loop-i : goal.invariant-loop-i
invariant-loop-i l = Laying l.values.bytes.now l.before l.values.count l.values.at l.initial.rows l.to l.rows l.here l.i
