-- Tables of numbers.
use Rattle.std.specs.Prelude.{ℕ}

-- a number of a table has 16 bits
abbrev pub numbers_below : ℕ
numbers_below = 65536
