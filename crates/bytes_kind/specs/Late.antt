-- Behind a kind other than Phi, a Phi is late.
use Rattle.std.specs.Prelude.{ℕ, not, ◌||◌, eqb}
use Rattle.bytes_field.specs.Walk.{Walk, walk_of}

abbrev pub late_behind : ℕ → Walk → Walk
late_behind k w = walk_of w.seen w.buffer w.count (w.late || not (eqb k 9))
