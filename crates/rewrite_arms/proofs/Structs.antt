-- A field's part by its name, and the parts of a struct's build by its type.
use Prim.Native.Nat.{ℕ, zero, suc, ◌+◌, ◌-◌, ◌≤◌, ◌<◌}
use mathlib.Core.Path.{◌≡◌, refl, ap, ◌∙◌, sym}
use mathlib.Core.List.{List, [], ◌∷◌}
use mathlib.Core.Option.{Option, none, some}
use native.Mathlib.Omega.{arith}
use borrow.Author.Tests.{ne_eqb}
use lib.ListN.{length, get_or, get_elem?, drop}
use Rattle.bytes_wire.specs.Parse.{ok}
use Rattle.std.specs.Prelude.{None}
use Rattle.mir.specs.Operand.{operand_of}
use Rattle.mir.specs.declared.Value.{Value}
use Rattle.mir.specs.declared.ValueId.{ValueId}
use Rattle.mir.specs.declared.TypeId.{TypeId}
use Rattle.mir.specs.declared.NameId.{NameId}
use Rattle.bytes_wire.proofs.Canon.{bytes_drop}
use Rattle.mir.specs.MirType.{StructField, MirType, Felt, Bool, U32, Tuple, Struct, FixedArray, Pointer, Function, Unit, Error, Unknown}
use Rattle.bytes_types.specs.Decode.{type_of}
use Rattle.bytes_types.proofs.Canon.{type_fit}
use Rattle.mir.specs.Syntax.{FieldInit}
use Rattle.bytes_field.specs.declared.Bounds.{Bounds}
use Rattle.mir.specs.Lookup.{Types, row_of, value_row, shape, is_struct, struct_fields_of, on_some}
use Rattle.bytes_struct.specs.FindField.{find_field, field_index}
use Rattle.bytes_struct.specs.declared.FoundField.{FoundField}
use Rattle.mir.specs.Parts.{from_struct_fields, struct_parts, struct_row}
use Rattle.rewrite.specs.State.{AggStates}
use Rattle.rewrite.specs.Piece.{Piece}
use Rattle.rewrite.specs.Step.{step_build, extract_index}
use Rattle.bytes_index.specs.Table.{recorded_in}
use Rattle.rewrite_parts.specs.Rows.{Inits}
use Rattle.bytes_struct.specs.Fields.{Names}
use Rattle.bytes_struct.proofs.Placed.{type_fields}
use Rattle.fold.specs.Tables.{Ground}
use Rattle.rewrite_arms.specs.Decided.{Planned}
use Rattle.rewrite_arms.specs.declared.Plan.{Plan}
use Rattle.rewrite_arms.specs.declared.spot.Spot.{Spot}

module _ (τ : Types) (x : Value) (f : NameId) (g : ℕ → Option Value) where
  -- only an operand has fields
  pub field_none : None ≡ operand_of x → on_some (extract_index τ x f) g ≡ none
  unfolding on_some extract_index
  field_none = go x
    where
      go : (y : Value) → None ≡ operand_of y → on_some (extract_index τ y f) g ≡ none
      go (Value.Literal l) e = refl
      go (Value.Operand v) e = absurd (let z : ◌≡◌ {A = ℕ} 0 1 = cc in omega arith)
      go Value.Error e = refl

  -- by the name's position
  pub field_unknown : {v : ValueId} → x ≡ Value.Operand v → none ≡ find_field (value_row τ v) f → on_some (extract_index τ x f) g ≡ none
  unfolding on_some extract_index field_index
  field_unknown {v} e h = rw (e, ← h) refl

  pub field_known : {v : ValueId} {r : FoundField} → x ≡ Value.Operand v → some r ≡ find_field (value_row τ v) f → on_some (extract_index τ x f) g ≡ g r.position
  unfolding on_some extract_index field_index
  field_known {v} {r} e h = rw (e, ← h) refl

-- only a struct has the shape 2
data IsStruct (o : Option MirType) : Type 0 where
  struct_is : (n : NameId) (ts : List StructField) → o ≡ some (Struct n ts) → IsStruct o

shape_struct : (o : Option MirType) → shape o ≡ 2 → IsStruct o
unfolding shape
shape_struct none e = absurd (omega arith)
shape_struct (some Felt) e = absurd (omega arith)
shape_struct (some Bool) e = absurd (omega arith)
shape_struct (some U32) e = absurd (omega arith)
shape_struct (some (Tuple ts)) e = absurd (omega arith)
shape_struct (some (Struct n fs)) e = struct_is n fs refl
shape_struct (some (FixedArray t size)) e = absurd (omega arith)
shape_struct (some (Pointer t)) e = absurd (omega arith)
shape_struct (some (Function ps r)) e = absurd (omega arith)
shape_struct (some Unit) e = absurd (omega arith)
shape_struct (some Error) e = absurd (omega arith)
shape_struct (some Unknown) e = absurd (omega arith)

-- an element that is there
element_there : {A : Type 0} (xs : List A) (k : ℕ) (d a : A) → get_elem? xs k ≡ some a → (k < length xs) × (get_or xs k d ≡ a)
element_there [] k d a e = absurd (let u : ◌≡◌ {A = ℕ} 0 1 = cc in omega arith)
element_there (x ∷ xs) zero d a e = (omega arith, let z : x ≡ a = cc in z)
element_there (x ∷ xs) (suc k) d a e = let h = element_there xs k d a e in (omega (arith, h.0), h.1)

-- the fields of a struct type, and where their names stand in its row
data FieldsIn (row : List ℕ) (o : Option MirType) : Type 0 where
  fields_in : (n : NameId) (ts : List StructField) → o ≡ some (Struct n ts) → Names row 4 ts → length ts ≡ get_or row 3 0 → length ts ≤ 16 → FieldsIn row o

struct_fields : {b : Bounds} {s types recorded : List ℕ} {τ : Types} (t : TypeId) (row : List ℕ) (at n : ℕ) → Ground b s types recorded τ → n ≡ shape (get_elem? τ.rows t.0) → n ≡ 2 → at ≡ get_or types t.0 0 → row ≡ drop at s → FieldsIn row (get_elem? τ.rows t.0)
unfolding shape
struct_fields {b} {s} {types} {recorded} {τ} t row at n g e two h f =
    elim (shape_struct (get_elem? τ.rows t.0) (sym e ∙ two)) [
      | struct_is name ts p ↦
          let k = element_there τ.rows t.0 MirType.Unit (Struct name ts) p in
          let own : row ≡ drop (get_or types t.0 0) s = f ∙ ap (λ a. drop a s) h in
          let m = get_or types (suc t.0) 0 - get_or types t.0 0 in
          let q : type_of b.list t.0 row ≡ ok (Struct name ts) m = rw (← k.1, own) (g.known.rows.each t.0 k.0) in
          let w = type_fields b.list t.0 row q refl in
          let fit = type_fit b.list t.0 row (rw f (bytes_drop s at g.bytes)) q in
          fields_in name ts p w.names w.many (omega (arith, fit.1, g.listed))
    ]

-- a struct's parts, where its type is one
parts_struct : (τ : Types) (d : ValueId) (fs : List FieldInit) (named t : TypeId) {n : NameId} {ts : List StructField} → struct_row τ d named ≡ row_of τ (some t) → get_elem? τ.rows t.0 ≡ some (Struct n ts) → struct_parts τ d fs named ≡ from_struct_fields fs ts
unfolding struct_parts row_of is_struct shape struct_fields_of
parts_struct τ d fs named t e f = rw (e, f) refl

pub parts_other : (τ : Types) (d : ValueId) (fs : List FieldInit) (named t : TypeId) (n : ℕ) → struct_row τ d named ≡ row_of τ (some t) → n ≡ shape (get_elem? τ.rows t.0) → (n ≡ 2 → ⊥) → struct_parts τ d fs named ≡ none
unfolding struct_parts row_of is_struct
parts_other τ d fs named t n e f h = rw (e, ← f, ne_eqb n 2 h) refl

-- the plan of a struct's build, by the type that its parts go by
pub struct_planned : {b : Bounds} {s facts : List ℕ} {τ : Types} {S : AggStates} {stay : Piece} {p : Spot} (named t : TypeId) (fs : List FieldInit) (n : ℕ) → Ground b s facts (recorded_in facts) τ → p.dest.0 < b.next → Inits b.next s (p.off + 3) fs → length fs ≡ get_or s (p.off + 2) 0 → struct_row τ p.dest named ≡ row_of τ (some t) → n ≡ shape (get_elem? τ.rows t.0) → n ≡ 2
    → Planned b.next s facts S stay p (step_build S stay p.dest (struct_parts τ p.dest fs named)) (Plan.Fields t)
struct_planned {b} {s} {facts} {τ} {S} {stay} {p} named t fs n g d v l e f two =
    elim (struct_fields t (drop (get_or facts t.0 0) s) (get_or facts t.0 0) n g f two refl refl) [
      | fields_in name ts q names count few ↦
          record {
            goes = record { inits = fs; stand = v; many = l; fields = ts; named = names; count = count; few = few; piece = ap (step_build S stay p.dest) (parts_struct τ p.dest fs named t e q) };
            dest = λ z. d;
          }
    ]
