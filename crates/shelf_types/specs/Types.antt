-- What is answered of values and of their recorded types.
use Rattle.std.specs.Prelude.{ℕ, ◌≤◌, ◌<◌, ◌≡◌, List, cond, length, eqb}
use Rattle.std.proofs.Math.Bool as B
use Rattle.std.proofs.Math.Option.{Option, none}
use Rattle.std.specs.Prelude.{Some, Option as Answered}
use Rattle.bytes_wire.specs.WellFormed.{FitValue}
use Rattle.mir.specs.declared.TypeId.{TypeId}
use Rattle.mir.specs.declared.Value.{Value}
use Rattle.mir.specs.declared.ValueId.{ValueId}
use Rattle.mir.specs.MirType.{MirType}
use Rattle.mir.specs.declared.Projection.{Projection}
use Rattle.bytes_index.specs.declared.code.Code.{Code}
use Rattle.bytes_index.specs.declared.code.Typing.{Typing}
use Rattle.bytes_sections.specs.Index.{RecordedAt}
use Rattle.mir.specs.Lookup.{Types, row_of, recorded_type, value_row, shape}
use Rattle.mir.specs.Parts.{part_type}
use Rattle.fold.specs.Tables.{TypingGround}
use Rattle.shelf.specs.Fits.{literal_kind, scalar_kind, fits, same_type, step_type}
use Rattle.shelf_rows.specs.Rows.{Is, Typed}

-- the type of part k of a type of that shape
abbrev pub shaped_part : Option MirType → ℕ → ℕ → Option TypeId
shaped_part row kind k = cond (eqb (shape row) kind) (part_type row k) none

-- the type behind one step of a place
abbrev pub StepTo : Code → Answered TypeId → Answered Projection → Answered TypeId → Type 0
StepTo code number p r = Typed code number (λ τ o. (q : Projection) → p ≡ Some q → Is r (step_type (row_of τ o) q))

-- what holds where the table of recorded types stands at `recorded`
abbrev pub Noted : List ℕ → (Types → Type 0) → Type 0
Noted recorded P =
    (τ : Types)
    → RecordedAt recorded τ.recorded
    → length τ.recorded ≤ length recorded
    → P τ

-- the recorded type of a value
abbrev pub TypeOfValue : List ℕ → ValueId → Answered TypeId → Type 0
TypeOfValue recorded v r = Noted recorded (λ τ. v.0 < length τ.recorded → Is r (recorded_type τ v))

-- two recorded types are the same
abbrev pub Same : Answered TypeId → Answered TypeId → B.Bool → Type 0
Same a c r = (o q : Option TypeId) → Is a o → Is c q → r ≡ same_type o q

-- a value of the routine fits a type
abbrev pub Fits : Typing → Value → Answered TypeId → B.Bool → Type 0
Fits typing x number r =
    (τ : Types) (o : Option TypeId)
    → TypingGround typing τ
    → Is number o
    → FitValue typing.code.bounds.next x
    → r ≡ fits τ x o

-- the literals that fit the type of a value, by the numbers of `scalar_kind`
abbrev pub value_kind : Types → Value → ℕ
value_kind τ (Value.Literal l) = literal_kind l
value_kind τ (Value.Operand v) = scalar_kind (value_row τ v)
value_kind τ Value.Error = 0

-- what holds for one value of the routine, what is answered of one, and of two
abbrev pub Grounded : Typing → Value → (Types → Type 0) → Type 0
Grounded typing x P = (τ : Types) → TypingGround typing τ → FitValue typing.code.bounds.next x → P τ

abbrev pub OfValue : Typing → Value → (Types → Value → B.Bool) → B.Bool → Type 0
OfValue typing x f r = Grounded typing x (λ τ. r ≡ f τ x)

abbrev pub OfValues : Typing → Value → Value → (Types → Value → Value → B.Bool) → B.Bool → Type 0
OfValues typing x y f r =
    (τ : Types)
    → TypingGround typing τ
    → FitValue typing.code.bounds.next x
    → FitValue typing.code.bounds.next y
    → r ≡ f τ x y
