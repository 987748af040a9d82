-- What stands at a place of an instruction's own fields, and lists of such things.
use Rattle.std.specs.Prelude.{ℕ, ◌<◌, ◌≡◌, List, [], ◌∷◌, drop}
use Rattle.bytes_wire.specs.Parse.{ok}
use Rattle.bytes_wire.specs.Number.{at16}
use Rattle.mir.specs.declared.ValueId.{ValueId}
use Rattle.mir.specs.declared.TypeId.{TypeId}
use Rattle.mir.specs.declared.Projection.{Projection}
use Rattle.bytes_field.specs.Decode.{projection_of}

-- a value's number, and a type's
pub record IdAt (next : ℕ) (t : List ℕ) (p : ℕ) (d : ValueId) : Type 0 where
  pub told : d.0 ≡ at16 t p
  pub low : d.0 < next

pub record TypeAt (types : ℕ) (t : List ℕ) (p : ℕ) (y : TypeId) : Type 0 where
  pub told : y.0 ≡ at16 t p
  pub low : y.0 < types

-- a projection
pub data StepAt (next : ℕ) (t : List ℕ) (p : ℕ) (q : Projection) : Type 0 where
  stepping : (n : ℕ) → projection_of next (drop p t) ≡ ok q n → StepAt next t p q

-- things one behind another from a place on, each of which has Q where it stands
infixr 67 ◌&◌
pub data Lined {A : Type 0} (Q : ℕ → A → Type 0) (end : ℕ → ℕ) : ℕ → List A → Type 0 where
  over : {at : ℕ} → Lined Q end at []
  ◌&◌ : {at : ℕ} {x : A} {xs : List A} → Q at x → Lined Q end (end at) xs → Lined Q end at (x ∷ xs)

-- how far into the fields a place may lie, so that no sum of places overflows: at the front, behind the fields there, behind
-- a list or the steps of a place, behind two lists, behind three
abbrev pub Front : ℕ → Type 0
Front at = at < 1000

abbrev pub Near : ℕ → Type 0
Near at = at < 1048576

abbrev pub Inner : ℕ → Type 0
Inner at = at < 2097152

abbrev pub Later : ℕ → Type 0
Later at = at < 8388608

abbrev pub Late : ℕ → Type 0
Late at = at < 16777216
