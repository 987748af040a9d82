-- How far into the bytes a lookup begins at most, so that no place wraps.
use Rattle.std.specs.Prelude.{ℕ}

-- at a value
abbrev pub value_reach : ℕ
value_reach = 9223372036854775808

-- at a projection
abbrev pub step_reach : ℕ
step_reach = 4611686018427387904

-- at projections or values that stand one behind another
abbrev pub list_reach : ℕ
list_reach = 1099511627776

-- where the first operand field of an instruction stands at most
abbrev pub operand_reach : ℕ
operand_reach = 2097152

-- at the fields of an instruction
abbrev pub offset_reach : ℕ
offset_reach = 2199023255552
