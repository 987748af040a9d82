-- The kinds of types as the code has them, and their numbers.
use Rattle.std.specs.Prelude.{ℕ, ◌≡◌, ◌<◌, Option, Result, MatchOption, MatchResult}
use Rattle.mir.specs.declared.type_kind.TypeKind.{TypeKind}
use Rattle.mir.specs.declared.type_kind.TypeKind.TheVariants.{Felt, Bool, U32, Tuple, Struct, FixedArray, Pointer, Function, Unit, Error, Unknown}
use Rattle.mir.specs.declared.UnknownNumber.{UnknownNumber}

-- a kind's number
abbrev pub number_of_type_kind : TypeKind → ℕ
number_of_type_kind Felt = 0
number_of_type_kind Bool = 1
number_of_type_kind U32 = 2
number_of_type_kind Tuple = 3
number_of_type_kind Struct = 4
number_of_type_kind FixedArray = 5
number_of_type_kind Pointer = 6
number_of_type_kind Function = 7
number_of_type_kind Unit = 8
number_of_type_kind Error = 9
number_of_type_kind Unknown = 10

-- the kind of a number; past the last there is none
abbrev pub DecodesTypeKind : ℕ → Result TypeKind UnknownNumber → Type 0
DecodesTypeKind n r = MatchResult r (λ k. number_of_type_kind k ≡ n) (λ e. 10 < n)

abbrev pub NamesTypeKind : ℕ → Option TypeKind → Type 0
NamesTypeKind n r = MatchOption r (10 < n) (λ k. number_of_type_kind k ≡ n)
