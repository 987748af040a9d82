-- What the code reads off the bytes of a type's row. Nothing here is believed: proofs/Told.antt ties it to the types.
use Rattle.std.specs.Prelude.{ℕ, ◌+◌, ◌*◌, ◌≡◌, List, [], ◌∷◌, Bool, false, cond, length, get_or, eqb, ltb}
use Rattle.std.specs.Prelude.{Some, None, Option as Answered}
use Rattle.std.proofs.Math.Option.{Option, none, some}
use Rattle.bytes_wire.specs.Number.{at16, at32}
use Rattle.mir.specs.declared.TypeId.{TypeId}
use Rattle.mir.specs.MirType.{MirType}
use Rattle.bytes_index.specs.declared.code.Code.{Code}
use Rattle.bytes_types.specs.Index.{TypesAt}
use Rattle.mir.specs.Lookup.{Types, row_of}
use Rattle.mir.specs.Option.{as_option}
use Rattle.mir.specs.Parts.{part_type, part_count, counts}
use Rattle.shelf.specs.declared.Literals.{Literals}
use Rattle.shelf.specs.Fits.{scalar_kind}
use Rattle.shelf.specs.Agrees.{pointee}

-- the kind of a row; 11 where there is no row
abbrev pub kind_at : List ℕ → ℕ
kind_at t = get_or t 0 11

-- the type whose number stands at a place
abbrev pub type_in : List ℕ → ℕ → TypeId
type_in t at = record { 0 = at16 t at }

-- which literals those are that the code names, by the numbers of `scalar_kind`
abbrev pub literals_number : Answered Literals → ℕ
literals_number None = 0
literals_number (Some Literals.Integers) = 1
literals_number (Some Literals.Booleans) = 2
literals_number (Some Literals.Units) = 3

-- which literals fit the type
abbrev pub row_scalar : List ℕ → ℕ
row_scalar t = get_or (1 ∷ 2 ∷ 1 ∷ 0 ∷ 0 ∷ 0 ∷ 0 ∷ 0 ∷ 3 ∷ []) (kind_at t) 0

-- a Tuple's types stand two bytes apart behind their count, a Struct's four bytes apart, each behind its name
abbrev pub tuple_part : List ℕ → ℕ → Option TypeId
tuple_part t k = cond (ltb k (get_or t 1 0)) (some (type_in t (2 + 2 * k))) none

abbrev pub struct_part : List ℕ → ℕ → Option TypeId
struct_part t k = cond (ltb k (get_or t 3 0)) (some (type_in t (6 + 4 * k))) none

-- the type of part k; an array's element stands behind the kind
abbrev pub row_part : List ℕ → ℕ → Option TypeId
row_part t k = get_or (none ∷ none ∷ none ∷ tuple_part t k ∷ struct_part t k ∷ some (type_in t 1) ∷ []) (kind_at t) none

-- the row is of a type with n parts
abbrev pub row_counts : List ℕ → ℕ → Bool
row_counts t n = get_or (false ∷ false ∷ false ∷ eqb (get_or t 1 0) n ∷ eqb (get_or t 3 0) n ∷ eqb (at32 t 3) n ∷ []) (kind_at t) false

-- the type that a Pointer points to stands behind the kind
abbrev pub row_pointee : List ℕ → Option TypeId
row_pointee t = get_or (none ∷ none ∷ none ∷ none ∷ none ∷ none ∷ some (type_in t 1) ∷ []) (kind_at t) none

-- the row `t` says all this of a type, or of none
pub record Tells (o : Option MirType) (t : List ℕ) : Type 0 where
  pub scalar : row_scalar t ≡ scalar_kind o
  pub part : (k : ℕ) → row_part t k ≡ part_type o k
  pub parts : (n : ℕ) → row_counts t n ≡ counts (part_count o) n
  pub points : row_pointee t ≡ pointee o

-- a recorded type is `o`
abbrev pub Is : Answered TypeId → Option TypeId → Type 0
Is r o = as_option r ≡ o

-- what holds of a recorded type in the type table of a routine
abbrev pub Typed : Code → Answered TypeId → (Types → Option TypeId → Type 0) → Type 0
Typed code number P =
    (τ : Types) (o : Option TypeId)
    → TypesAt code.bounds.list code.bytes.now code.facts.now τ.rows
    → length τ.rows ≡ code.bounds.types
    → Is number o
    → P τ o

-- what is answered of a recorded type: by the type, by its row, and where the answer is a type itself
abbrev pub OfType : {A : Type 0} → Code → Answered TypeId → (Types → Option TypeId → A) → A → Type 0
OfType code number f r = Typed code number (λ τ o. r ≡ f τ o)

abbrev pub OfRow : {A : Type 0} → Code → Answered TypeId → (Option MirType → A) → A → Type 0
OfRow code number f r = Typed code number (λ τ o. r ≡ f (row_of τ o))

abbrev pub TypeInRow : Code → Answered TypeId → (Option MirType → Option TypeId) → Answered TypeId → Type 0
TypeInRow code number f r = Typed code number (λ τ o. Is r (f (row_of τ o)))
