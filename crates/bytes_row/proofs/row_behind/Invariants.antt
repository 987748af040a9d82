use Rattle.bytes_row.proofs.Rows.{Left}
use Rattle.bytes_wire.specs.Parse.{and_then}
use Rattle.std.proofs.Common.{◌≡◌, ◌<◌, length}
use Rattle.bytes_field.specs.Walk.{places, scanned, row_walk}
use Rattle.bytes_row.specs.Class.{number_of_row}
use Rattle.bytes_row.proofs.row_behind.Given as goal

abbrev pub invariant-loop-c : goal.invariant-loop-c
invariant-loop-c l =
    (length l.seen ≡ length l.initial.seen) × (length l.buffer ≡ length l.initial.buffer)
    × (l.w.size < places) × Left l.b l.many l.s l.row
    (and_then l.s (scanned l.initial.seen l.initial.buffer l.initial.w) (λ w t. row_walk l.b l.many (length l.row) (number_of_row l.row) w t))
    l.c-index (scanned l.seen l.buffer l.w)
