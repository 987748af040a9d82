-- A struct build against its type.
use Prim.Native.Nat.{ℕ, ◌<◌}
use mathlib.Core.Path.{◌≡◌, refl, ap, ◌∙◌, sym}
use mathlib.Core.List.{List}
use mathlib.Core.Bool.{true, false, ◌&&◌, and-false, true≢false}
use mathlib.Core.Bool as B
use mathlib.Core.Option.{Option, none, some}
use native.Mathlib.Omega.{arith}
use borrow.Author.Tests.{eqb-true}
use lib.ListN.{length, get_or, drop}
use lib.Dec.{eqb}
use Rattle.mir.specs.declared.ValueId.{ValueId}
use Rattle.mir.specs.declared.TypeId.{TypeId}
use Rattle.mir.specs.declared.NameId.{NameId}
use Rattle.mir.specs.MirType.{StructField, MirType, Felt, Bool, U32, Tuple, Struct, FixedArray, Pointer, Function, Unit, Error, Unknown}
use Rattle.bytes_types.specs.Decode.{type_of}
use Rattle.bytes_types.specs.Index.{TypesAt}
use Rattle.mir.specs.Syntax.{FieldInit, InstructionKind}
use Rattle.bytes_struct.specs.Fields.{Names, no_field}
use Rattle.bytes_struct.proofs.Placed.{type_fields}
use Rattle.bytes_struct.proofs.Laws.{field_part}
use Rattle.table.proofs.Elements.{some_at}
use Rattle.mir.specs.Lookup.{Types, row_of, recorded_type, shape, is_struct, struct_fields_of}
use Rattle.mir.specs.Parts.{part_type, part_count, counts}
use Rattle.shelf.specs.Fits.{same_type, fields_fit}
use Rattle.shelf.specs.Agrees.{agrees}

-- a struct type, or another
data StructOr (row : Option MirType) : Type 0 where
  a_struct : (n : NameId) (ss : List StructField) → row ≡ some (Struct n ss) → StructOr row
  no_struct : is_struct row ≡ false → StructOr row

struct_or : (row : Option MirType) → StructOr row
unfolding is_struct shape
struct_or none = no_struct refl
struct_or (some Felt) = no_struct refl
struct_or (some Bool) = no_struct refl
struct_or (some U32) = no_struct refl
struct_or (some (Tuple ts)) = no_struct refl
struct_or (some (Struct n ss)) = a_struct n ss refl
struct_or (some (FixedArray t size)) = no_struct refl
struct_or (some (Pointer t)) = no_struct refl
struct_or (some (Function ps r)) = no_struct refl
struct_or (some Unit) = no_struct refl
struct_or (some Error) = no_struct refl
struct_or (some Unknown) = no_struct refl

-- equal numbers, either way round
turned : (a c : ℕ) (k l : B.Bool) → eqb a c ≡ k → eqb c a ≡ l → k ≡ l
turned a c true true e f = refl
turned a c false false e f = refl
turned a c true false e f = let z : a ≡ c = eqb-true a c e in let w : eqb a a ≡ false = rw (← z) at f in let v : eqb a a ≡ true = rw (← z) at e in sym v ∙ w
turned a c false true e f = let z : c ≡ a = eqb-true c a f in let w : eqb c c ≡ false = rw (← z) at e in let v : eqb c c ≡ true = rw (← z) at f in sym w ∙ v

pub turn : (a c : ℕ) → eqb a c ≡ eqb c a
turn a c = turned a c (eqb a c) (eqb c a) refl refl

-- what is left to test behind the dest
abbrev pub Rest : Types → List FieldInit → Option MirType → B.Bool
Rest τ fs row = is_struct row && (eqb (length fs) (length (struct_fields_of row)) && fields_fit τ fs (struct_fields_of row))

pub rest_few : (τ : Types) (fs : List FieldInit) (row : Option MirType) → counts (part_count row) (length fs) ≡ false → Rest τ fs row ≡ false
unfolding is_struct shape struct_fields_of part_count counts
rest_few τ fs row h =
    elim (struct_or row) [
      | a_struct n ss e ↦
          let h' : eqb (length ss) (length fs) ≡ false = rw e at h in
          rw e (ap (λ b. b && fields_fit τ fs ss) (turn (length fs) (length ss) ∙ h'))
      | no_struct z ↦ ap (λ b. b && (eqb (length fs) (length (struct_fields_of row)) && fields_fit τ fs (struct_fields_of row))) z
    ]

pub rest_shape : (τ : Types) (fs : List FieldInit) (row : Option MirType) → eqb (shape row) 2 ≡ false → Rest τ fs row ≡ false
unfolding is_struct
rest_shape τ fs row h = ap (λ b. b && (eqb (length fs) (length (struct_fields_of row)) && fields_fit τ fs (struct_fields_of row))) h

pub rest_fit : (τ : Types) (fs : List FieldInit) (row : Option MirType) {f : B.Bool} → counts (part_count row) (length fs) ≡ true → eqb (shape row) 2 ≡ true → ((n : NameId) (ss : List StructField) → row ≡ some (Struct n ss) → length ss ≡ length fs → f ≡ fields_fit τ fs ss) → f ≡ Rest τ fs row
unfolding is_struct shape struct_fields_of part_count counts
rest_fit τ fs row {f} h s k =
    elim (struct_or row) [
      | a_struct n ss e ↦
          let h' : eqb (length ss) (length fs) ≡ true = rw e at h in
          rw e (k n ss e (eqb-true (length ss) (length fs) h') ∙ ap (λ b. b && fields_fit τ fs ss) (sym (turn (length fs) (length ss) ∙ h')))
      | no_struct z ↦ absurd (true≢false (sym s ∙ z))
    ]

-- the whole of it
pub struct_no : (τ : Types) (d : ValueId) (fs : List FieldInit) (y : TypeId) → Rest τ fs (row_of τ (some y)) ≡ false → false ≡ agrees τ (InstructionKind.MakeStruct d fs y)
unfolding agrees
struct_no τ d fs y e = sym (ap (λ b. same_type (recorded_type τ d) (some y) && b) e ∙ and-false (same_type (recorded_type τ d) (some y)))

pub struct_yes : (τ : Types) (d : ValueId) (fs : List FieldInit) (y : TypeId) {r f : B.Bool} → r ≡ (same_type (recorded_type τ d) (some y) && f) → f ≡ Rest τ fs (row_of τ (some y)) → r ≡ agrees τ (InstructionKind.MakeStruct d fs y)
unfolding agrees
struct_yes τ d fs y p q = p ∙ ap (λ b. same_type (recorded_type τ d) (some y) && b) q

-- the row of a struct type
pub struct_parts : (n : NameId) (ss : List StructField) (row : Option MirType) → row ≡ some (Struct n ss) → (k : ℕ) → k < length ss → part_type row k ≡ some (get_or ss k no_field).part
unfolding struct_fields_of
struct_parts n ss row e k h = rw e (field_part (some (Struct n ss)) k h)

pub struct_names : (most many : ℕ) (s types : List ℕ) (τ : Types) (y : TypeId) (n : NameId) (ss : List StructField) (u : List ℕ) → TypesAt most s types τ.rows → length τ.rows ≡ many → y.0 < many → u ≡ drop (get_or types y.0 0) s → row_of τ (some y) ≡ some (Struct n ss) → Names u 4 ss
unfolding row_of shape
struct_names most many s types τ y n ss u a m l e f =
    let k = y.0 in
    let h : k < length τ.rows = omega (arith, l, m) in
    let z : get_or τ.rows k MirType.Unit ≡ Struct n ss = (let w : some (get_or τ.rows k MirType.Unit) ≡ some (Struct n ss) = sym (some_at τ.rows k MirType.Unit h) ∙ f in cc) in
    (type_fields most k u (ap (type_of most k) e ∙ a.each k h) z).names
