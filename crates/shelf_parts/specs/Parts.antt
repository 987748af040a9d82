-- What is answered where a part is taken out of an aggregate, or put into one.
use Rattle.std.specs.Prelude.{ℕ, ◌≡◌, ◌&&◌, List, Bool}
use Rattle.std.specs.Prelude.{Option as Answered}
use Rattle.std.proofs.Math.Option.{Option, some}
use Rattle.mir.specs.declared.TypeId.{TypeId}
use Rattle.mir.specs.declared.Value.{Value}
use Rattle.mir.specs.declared.ValueId.{ValueId}
use Rattle.mir.specs.Lookup.{Types, recorded_type}
use Rattle.bytes_index.specs.declared.code.Typing.{Typing}
use Rattle.fold.specs.Tables.{TypingGround}
use Rattle.rewrite_parts.specs.Rows.{ValueAt}
use Rattle.shelf.specs.Fits.{fits, same_type}
use Rattle.shelf_rows.specs.Rows.{Is}
use Rattle.shelf_field.specs.Fields.{IdAt, TypeAt}

-- the dest in front has the type that stands at a place, and so has the part
abbrev pub TakenOut : Typing → List ℕ → ℕ → Answered TypeId → Bool → Type 0
TakenOut typing t at part r =
    (τ : Types) (d : ValueId) (y : TypeId) (o : Option TypeId)
    → TypingGround typing τ
    → IdAt typing.code.bounds.next t 0 d
    → TypeAt typing.code.bounds.types t at y
    → Is part o
    → r ≡ (same_type (recorded_type τ d) (some y) && same_type o (some y))

-- the dest in front and the value behind it are of the type `number`, the value at a place of the part's
abbrev pub PutIn : Typing → List ℕ → Answered TypeId → ℕ → Answered TypeId → Bool → Type 0
PutIn typing t number at part r =
    (τ : Types) (d : ValueId) (x z : Value) (y : TypeId) (o : Option TypeId)
    → TypingGround typing τ
    → IdAt typing.code.bounds.next t 0 d
    → ValueAt typing.code.bounds.next t 2 x
    → ValueAt typing.code.bounds.next t at z
    → Is number (some y)
    → Is part o
    → r ≡ (same_type (recorded_type τ d) (some y) && (fits τ x (some y) && fits τ z o))
