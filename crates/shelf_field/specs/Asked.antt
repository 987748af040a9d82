-- What is answered of what stands at a place of an instruction's own fields t.
use Rattle.std.specs.Prelude.{ℕ, ◌≡◌, List, Bool, eqb}
use Rattle.std.specs.Prelude.{Option as Answered}
use Rattle.std.proofs.Math.Option.{Option}
use Rattle.bytes_wire.specs.Parse.{Parse, ok}
use Rattle.mir.specs.declared.TypeId.{TypeId}
use Rattle.mir.specs.declared.Value.{Value}
use Rattle.mir.specs.declared.ValueId.{ValueId}
use Rattle.mir.specs.Syntax.{InstructionKind}
use Rattle.bytes_field.specs.declared.Bounds.{Bounds}
use Rattle.bytes_index.specs.declared.code.Code.{Code}
use Rattle.bytes_index.specs.declared.code.Typing.{Typing}
use Rattle.rewrite_parts.specs.Rows.{ValueAt}
use Rattle.mir.specs.Lookup.{Types, row_of, recorded_type, shape}
use Rattle.fold.specs.Tables.{Ground, TypingGround}
use Rattle.rewrite.specs.Rebuild.{return_type}
use Rattle.shelf.specs.Fits.{fits, same_type}
use Rattle.shelf.specs.Agrees.{agrees}
use Rattle.shelf_rows.specs.Rows.{Is}
use Rattle.shelf_field.specs.Fields.{IdAt}

-- what holds of the value whose number stands at a place
abbrev pub OfId : Typing → List ℕ → ℕ → (Types → ValueId → Type 0) → Type 0
OfId typing t at P =
    (τ : Types) (d : ValueId)
    → TypingGround typing τ
    → IdAt typing.code.bounds.next t at d
    → P τ d

-- its recorded type, whatever the bytes are beside which the recorded types stand
abbrev pub IdType : Typing → List ℕ → ℕ → Answered TypeId → Type 0
IdType typing t at r =
    (s types : List ℕ) (τ : Types) (d : ValueId)
    → Ground typing.code.bounds s types typing.recorded.now τ
    → IdAt typing.code.bounds.next t at d
    → Is r (recorded_type τ d)

-- that is `number`
abbrev pub IdHas : Typing → List ℕ → ℕ → Answered TypeId → Bool → Type 0
IdHas typing t at number r =
    (s types : List ℕ) (τ : Types) (d : ValueId) (o : Option TypeId)
    → Ground typing.code.bounds s types typing.recorded.now τ
    → IdAt typing.code.bounds.next t at d
    → Is number o
    → r ≡ same_type (recorded_type τ d) o

-- what holds of the value that stands at a place
abbrev pub OfValueAt : Typing → List ℕ → ℕ → (Types → Value → Type 0) → Type 0
OfValueAt typing t at P =
    (τ : Types) (x : Value)
    → TypingGround typing τ
    → ValueAt typing.code.bounds.next t at x
    → P τ x

-- the recorded type of an operand that stands there
abbrev pub OperandType : Typing → List ℕ → ℕ → Answered TypeId → Type 0
OperandType typing t at r =
    (s types : List ℕ) (τ : Types) (x : Value)
    → Ground typing.code.bounds s types typing.recorded.now τ
    → ValueAt typing.code.bounds.next t at x
    → Is r (return_type τ x)

-- it fits the type `number`
abbrev pub ValueFits : Typing → List ℕ → ℕ → Answered TypeId → Bool → Type 0
ValueFits typing t at number r =
    (τ : Types) (x : Value) (o : Option TypeId)
    → TypingGround typing τ
    → ValueAt typing.code.bounds.next t at x
    → Is number o
    → r ≡ fits τ x o

-- a type is of shape k
abbrev pub HasShape : Code → Answered TypeId → ℕ → Bool → Type 0
HasShape code number k r =
    (recorded : List ℕ) (τ : Types) (o : Option TypeId)
    → Ground code.bounds code.bytes.now code.facts.now recorded τ
    → Is number o
    → r ≡ eqb (shape (row_of τ o)) k

-- what is answered of the instruction that `decode` reads in its own fields: whether it agrees
abbrev pub Judged : (Bounds → List Bool → List ℕ → Parse InstructionKind) → Typing → List ℕ → Bool → Type 0
Judged decode typing t r =
    (τ : Types) (seen : List Bool) (i : InstructionKind) (n : ℕ)
    → TypingGround typing τ
    → decode typing.code.bounds seen t ≡ ok i n
    → r ≡ agrees τ i
