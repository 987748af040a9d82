use Rattle.bytes_sections.proofs.Recording.{Recording}
use Rattle.std.proofs.Common.{drop}
use Rattle.bytes_sections.proofs.sections.recorded_part.Given as goal

abbrev pub invariant-loop-v : goal.invariant-loop-v
invariant-loop-v l = Recording l.types (drop l.map l.s) l.next l.at l.s l.initial.facts l.facts l.v l.here
