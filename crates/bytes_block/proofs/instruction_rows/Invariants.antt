use Rattle.bytes_block.proofs.Filling.{Filling}
use Rattle.std.proofs.Common.{◌≡◌, length}
use Rattle.bytes_block.proofs.instruction_rows.Given as goal

abbrev pub invariant-loop-i : goal.invariant-loop-i
invariant-loop-i l =
    (length l.seen ≡ length l.initial.seen) × (length l.facts ≡ length l.initial.facts)
    × Filling l.b l.at l.count l.first l.s l.initial.seen l.initial.facts l.facts l.i l.here l.late l.seen
