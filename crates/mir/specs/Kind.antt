-- The kinds of instructions as the code has them, and their numbers.
use Rattle.std.specs.Prelude.{ℕ, ◌≡◌, ◌<◌, Bool, ◌||◌, eqb, Option, Result, MatchOption, MatchResult}
use Rattle.mir.specs.declared.kind.Kind.{Kind}
use Rattle.mir.specs.declared.kind.Kind.TheVariants.{Assign, UnaryOp, BinaryOp, Call, Cast, Load, Store, Debug, Nop, Phi}
use Rattle.mir.specs.declared.kind.Kind.TheVariants.{MakeTuple, ExtractTupleElement, MakeStruct, ExtractStructField}
use Rattle.mir.specs.declared.kind.Kind.TheVariants.{InsertField, InsertTuple, MakeFixedArray, AssertEq, HeapAllocCells}
use Rattle.mir.specs.declared.UnknownNumber.{UnknownNumber}

-- a kind's number
abbrev pub number_of_kind : Kind → ℕ
number_of_kind Assign = 0
number_of_kind UnaryOp = 1
number_of_kind BinaryOp = 2
number_of_kind Call = 3
number_of_kind Cast = 4
number_of_kind Load = 5
number_of_kind Store = 6
number_of_kind Debug = 7
number_of_kind Nop = 8
number_of_kind Phi = 9
number_of_kind MakeTuple = 10
number_of_kind ExtractTupleElement = 11
number_of_kind MakeStruct = 12
number_of_kind ExtractStructField = 13
number_of_kind InsertField = 14
number_of_kind InsertTuple = 15
number_of_kind MakeFixedArray = 16
number_of_kind AssertEq = 17
number_of_kind HeapAllocCells = 18

-- the kind of a number; past the last there is none
abbrev pub DecodesKind : ℕ → Result Kind UnknownNumber → Type 0
DecodesKind n r = MatchResult r (λ k. number_of_kind k ≡ n) (λ e. 18 < n)

abbrev pub NamesKind : ℕ → Option Kind → Type 0
NamesKind n r = MatchOption r (18 < n) (λ k. number_of_kind k ≡ n)

-- a kind's number is that of MakeTuple, MakeStruct or MakeFixedArray
abbrev pub build_kind : ℕ → Bool
build_kind kind = eqb kind 10 || (eqb kind 12 || eqb kind 16)
