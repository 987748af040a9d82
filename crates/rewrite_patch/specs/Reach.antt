-- How far into an instruction its readings stand at most.
use Rattle.std.specs.Prelude.{ℕ}

-- the first of a list or of the operand fields
abbrev pub row_most : ℕ
row_most = 1024

-- a reading, among an instruction's own fields, and in the instruction
abbrev pub number_most : ℕ
number_most = 200000

abbrev pub place_most : ℕ
place_most = 1048576

-- how many readings an instruction has at most
abbrev pub most_readings : ℕ
most_readings = 16
