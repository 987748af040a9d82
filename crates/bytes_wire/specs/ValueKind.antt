-- The kinds of values as the code has them, and their numbers.
use Rattle.std.specs.Prelude.{ℕ, ◌≡◌, ◌<◌, Result, MatchResult}
use Rattle.bytes_wire.specs.declared.value_kind.ValueKind.{ValueKind}
use Rattle.bytes_wire.specs.declared.value_kind.ValueKind.TheVariants.{Integer, Boolean, Unit, Operand, Error}
use Rattle.mir.specs.declared.UnknownNumber.{UnknownNumber}

-- a kind's number
abbrev pub number_of_value_kind : ValueKind → ℕ
number_of_value_kind Integer = 0
number_of_value_kind Boolean = 1
number_of_value_kind Unit = 2
number_of_value_kind Operand = 3
number_of_value_kind Error = 4

-- the kind of a number; past the last there is none
abbrev pub DecodesValueKind : ℕ → Result ValueKind UnknownNumber → Type 0
DecodesValueKind n r = MatchResult r (λ k. number_of_value_kind k ≡ n) (λ e. 4 < n)
