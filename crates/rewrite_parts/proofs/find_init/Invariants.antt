use Rattle.rewrite_parts.proofs.ByName.{Seeking}
use Rattle.rewrite_parts.proofs.find_init.Given as goal

abbrev pub invariant-loop-i : goal.invariant-loop-i
invariant-loop-i l = Seeking l.inits.bytes.now l.inits.at l.inits.count l.name l.here l.i
