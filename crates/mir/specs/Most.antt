-- How many a routine has at most. (src/most.rt has the same.)
use Rattle.std.specs.Prelude.{ℕ}

abbrev pub most_values : ℕ
most_values = 256

abbrev pub most_blocks : ℕ
most_blocks = 32

-- of a block
abbrev pub most_instructions : ℕ
most_instructions = 128

-- a slot for each of 256 instructions, and one for each terminator
abbrev pub most_slots : ℕ
most_slots = 288
