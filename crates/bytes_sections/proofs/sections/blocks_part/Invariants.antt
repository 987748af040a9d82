use Rattle.bytes_sections.proofs.Coding.{Coding}
use Rattle.std.proofs.Common.{◌≡◌, length}
use Rattle.bytes_sections.proofs.sections.blocks_part.Given as goal

abbrev pub invariant-loop-k : goal.invariant-loop-k
invariant-loop-k l =
    (length l.seen ≡ length l.initial.seen) × (length l.facts ≡ length l.initial.facts)
    × Coding l.b l.at l.s l.initial.seen l.initial.facts l.facts l.k l.here l.total l.seen
