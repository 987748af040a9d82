use Rattle.rewrite_parts.proofs.ByName.{Naming}
use Rattle.rewrite_parts.proofs.put_named.Given as goal

abbrev pub invariant-loop-i : goal.invariant-loop-i
invariant-loop-i l = Naming l.inits.bytes.now l.inits.at l.inits.count l.names.bytes.now l.names.at l.names.count l.initial.rows l.to l.rows l.i
