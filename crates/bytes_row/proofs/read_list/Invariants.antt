use Rattle.bytes_field.proofs.Laws.{Upto}
use Rattle.bytes_wire.specs.Parse.{and_then}
use Rattle.std.proofs.Common.{◌≡◌, ◌<◌, length}
use Rattle.bytes_field.specs.Walk.{places, scanned, pair_walk, times, first_of, second_of}
use Rattle.bytes_row.specs.Class.{number_of_list}
use Rattle.bytes_row.proofs.read_list.Given as goal

abbrev pub invariant-loop-i : goal.invariant-loop-i
invariant-loop-i l =
    let f = pair_walk l.b (first_of (number_of_list l.k)) (second_of (number_of_list l.k)) in
    (length l.seen ≡ length l.initial.seen) × (length l.buffer ≡ length l.initial.buffer)
    × (l.w.size < places) × Upto f l.s (and_then l.s (scanned l.initial.seen l.initial.buffer l.initial.w) (λ w t. times f l.i-end w t))
    l.i-end l.i (scanned l.seen l.buffer l.w)
