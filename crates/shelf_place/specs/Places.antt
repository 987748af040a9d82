-- A place of a Load or a Store, by where its fields stand, and what is answered of it.
use Rattle.std.specs.Prelude.{ℕ, ◌+◌, ◌≡◌, List, Bool, length, get_or}
use Rattle.std.specs.Prelude.{Option as Answered}
use Rattle.std.proofs.Math.Option.{Option, some}
use Rattle.mir.specs.declared.TypeId.{TypeId}
use Rattle.mir.specs.declared.Projection.{Projection}
use Rattle.mir.specs.Syntax.{Place}
use Rattle.bytes_index.specs.declared.code.Code.{Code}
use Rattle.bytes_index.specs.declared.code.Typing.{Typing}
use Rattle.bytes_operands.specs.Fields.{projection_end}
use Rattle.mir.specs.Lookup.{Types, recorded_type}
use Rattle.fold.specs.Tables.{Ground, TypingGround}
use Rattle.shelf.specs.Lists.{every}
use Rattle.shelf.specs.Agrees.{index_fits, reached, place_fits}
use Rattle.shelf_rows.specs.Rows.{Is}
use Rattle.rewrite_parts.specs.declared.listed.Listed.{Listed}
use Rattle.shelf_field.specs.Fields.{IdAt, StepAt, Lined}

abbrev pub StepsIn : ℕ → List ℕ → ℕ → List Projection → Type 0
StepsIn next t at ps = Lined (StepAt next t) (projection_end t) at ps

-- a place: its base, the count of its projections, and these
pub record PlaceAt (next : ℕ) (t : List ℕ) (at : ℕ) (p : Place) : Type 0 where
  pub base : IdAt next t at p.base
  pub many : length p.projections ≡ get_or t (at + 2) 0
  pub steps : StepsIn next t (at + 3) p.projections

-- the type that projections lead to from the type `number`
abbrev pub LeadsTo : Code → Listed → Answered TypeId
    → (Types → Option TypeId → List Projection → Option TypeId) → Answered TypeId → Type 0
LeadsTo code steps number f r =
    (recorded : List ℕ) (τ : Types) (o : Option TypeId) (ps : List Projection)
    → Ground code.bounds code.bytes.now code.facts.now recorded τ
    → Is number o
    → StepsIn code.bounds.next steps.bytes.now steps.at ps
    → length ps ≡ steps.count
    → Is r (f τ o ps)

-- the value of a projection that is an Index can be one
abbrev pub IndexFits : Typing → List ℕ → ℕ → Bool → Type 0
IndexFits typing t at r =
    (τ : Types) (q : Projection)
    → TypingGround typing τ
    → StepAt typing.code.bounds.next t at q
    → r ≡ index_fits τ q

-- and so of each of a list
abbrev pub IndexesFit : Typing → Listed → Bool → Type 0
IndexesFit typing steps r =
    (τ : Types) (ps : List Projection)
    → TypingGround typing τ
    → StepsIn typing.code.bounds.next steps.bytes.now steps.at ps
    → length ps ≡ steps.count
    → r ≡ every (index_fits τ) ps

-- the type at the end of a place, whose base is of the type `base`
abbrev pub Reaches : Code → Answered TypeId → Listed → Answered TypeId → Type 0
Reaches code base steps r =
    (recorded : List ℕ) (τ : Types) (p : Place)
    → Ground code.bounds code.bytes.now code.facts.now recorded τ
    → Is base (recorded_type τ p.base)
    → StepsIn code.bounds.next steps.bytes.now steps.at p.projections
    → length p.projections ≡ steps.count
    → Is r (reached τ p)

-- a place leads to the type `number`
abbrev pub PlaceFits : Typing → List ℕ → ℕ → Answered TypeId → Bool → Type 0
PlaceFits typing t at number r =
    (τ : Types) (p : Place) (y : TypeId)
    → TypingGround typing τ
    → PlaceAt typing.code.bounds.next t at p
    → Is number (some y)
    → r ≡ place_fits τ p y
