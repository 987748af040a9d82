use Rattle.bytes_row.proofs.Rows.{Digits}
use Rattle.bytes_wire.specs.Parse.{and_then}
use Rattle.std.proofs.Common.{◌≡◌, ◌<◌, length}
use Rattle.bytes_field.specs.Walk.{places, scanned, row_walk}
use Rattle.bytes_row.proofs.then_row.Given as goal

abbrev pub invariant-loop : goal.invariant-loop
invariant-loop l =
    (length l.seen ≡ length l.initial.seen) × (length l.buffer ≡ length l.initial.buffer)
    × (l.w.size < places) × Digits l.b l.many l.s
    (and_then l.s (scanned l.initial.seen l.initial.buffer l.initial.w) (λ w t. row_walk l.b l.many 5 l.row w t))
    l.left l.counter (scanned l.seen l.buffer l.w)
