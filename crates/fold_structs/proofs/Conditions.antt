-- The conditions of a MakeStruct, found in its bytes.
use Prim.Native.Nat.{ℕ, zero, suc, ◌+◌, ◌-◌, ◌≤◌, ◌<◌}
use mathlib.Core.Path.{◌≡◌, refl, ap, ◌∙◌, sym}
use mathlib.Core.List.{List, [], ◌∷◌}
use mathlib.Core.Bool.{Bool, true, false}
use mathlib.Core.Option.{Option, none, some}
use native.Mathlib.Omega.{arith}
use borrow.Author.Tests.{ne_eqb}
use lib.ListN.{length, get_or, get_elem?, drop}
use lib.Seq.{drop-drop}
use Rattle.bytes_wire.specs.Parse.{ok}
use Rattle.bytes_wire.specs.Number.{at16, below}
use Rattle.mir.specs.declared.ValueId.{ValueId}
use Rattle.mir.specs.declared.TypeId.{TypeId}
use Rattle.bytes_wire.proofs.Laws.{from_16}
use Rattle.bytes_wire.proofs.Inv.{both, image, and_inv, map_inv, number_inv, below_inv}
use Rattle.mir.specs.MirType.{StructField, MirType}
use Rattle.mir.specs.Syntax.{FieldInit, Instruction, InstructionKind, MakeStruct}
use Rattle.mir.specs.Reads.{kind_number}
use Rattle.bytes_field.specs.Decode.{defined_of, type_id_of, list_of, field_init_of, make_struct_of, instruction_of}
use Rattle.bytes_field.specs.declared.Bounds.{Bounds}
use Rattle.bytes_operands.specs.Fields.{fields_place}
use Rattle.bytes_operands.proofs.Instruction.{instruction_fields}
use Rattle.bytes_sections.specs.Index.{recorded_from}
use Rattle.fold_shapes.specs.Shapes.{OfType}
use Rattle.fold.specs.declared.Settings.{Settings}
use Rattle.mir.specs.Lookup.{Types, row_of, recorded_type, value_row, shape, is_struct, struct_fields_of, is_some}
use Rattle.fold.specs.Scalarizable.{is_scalarizable}
use Rattle.fold.specs.Family.{Marks}
use Rattle.mir.specs.Parts.{or_else, struct_row, from_struct_fields, struct_parts}
use Rattle.fold.specs.Climb.{buildable}
use Rattle.bytes_index.specs.Table.{recorded_in}
use Rattle.bytes_index.specs.declared.code.Code.{Code}
use Rattle.bytes_index.specs.declared.slots.Slots.{Slots}
use Rattle.rewrite_parts.specs.Rows.{Inits}
use Rattle.bytes_struct.specs.Fields.{Names}
use Rattle.rewrite_parts.proofs.Builds.{own_inits}
use Rattle.bytes_struct.proofs.Placed.{type_fields}
use Rattle.fold.specs.Tables.{Ground, CodeGround}
use Rattle.std.specs.Prelude.{Some, None, Option as Answered, unwrap_or}
use Rattle.mir.specs.Option.{as_option}
use Rattle.fold_shapes.proofs.Values.{recorded_back}
use Rattle.fold_structs.specs.Told.{goes_by, TellsRow, Passes, StructTold}
use Rattle.fold_climb.proofs.Found.{dest_at}

-- a type's number at a place
type_at : (types : ℕ) (t : List ℕ) (p : ℕ) {y : TypeId} {n : ℕ} → type_id_of types (drop p t) ≡ ok y n → (y.0 ≡ at16 t p) × (y.0 < types) × (n ≡ 2)
type_at types t p e =
    elim (map_inv (λ x. record { 0 = x }) (below types (drop p t)) e) [
      | image x f g ↦
          let h = below_inv types (drop p t) f in
          let k = number_inv 2 (drop p t) h.0 in
          let i = ap (λ (a : TypeId). a.0) g in
          (i ∙ k.1 ∙ from_16 t p, rw i h.1, k.2)
    ]

-- the type of a number
abbrev typed : ℕ → TypeId
typed n = record { 0 = n }

-- what the code takes in place of a recorded type
pub goes_told : (o : Answered TypeId) (y : TypeId) → unwrap_or o y ≡ goes_by (as_option o) y
goes_told None y = refl
goes_told (Some t) y = refl

-- a number behind some bytes
behind_16 : (o : ℕ) (t : List ℕ) (p : ℕ) → at16 (drop o t) p ≡ at16 t (o + p)
behind_16 o t p = sym (from_16 (drop o t) p) ∙ rw (drop-drop p o t) (from_16 t (o + p))

-- a struct build of n bytes: its dest stands first, its type last
data StructAt (next types : ℕ) (t : List ℕ) (i : InstructionKind) (n : ℕ) : Type 0 where
  struct_at : (d : ValueId) (fs : List FieldInit) (y : TypeId) → i ≡ MakeStruct d fs y → d.0 ≡ at16 t 0 → d.0 < next → y.0 < types → y.0 ≡ at16 t (n - 2) → 2 ≤ n → StructAt next types t i n

struct_fields : (b : Bounds) (seen : List Bool) (t : List ℕ) (i : InstructionKind) (n : ℕ) → make_struct_of b seen t ≡ ok i n → StructAt b.next b.types t i n
unfolding make_struct_of
struct_fields b seen t i n e =
    elim (and_inv t (defined_of b.next seen t) _ e) [
      | both d m k p q r ↦
          elim (and_inv (drop m t) (list_of b.list (field_init_of b) (drop m t)) _ q) [
            | both fs m' k' p' q' r' ↦
                elim (map_inv (λ t. MakeStruct d fs t) (type_id_of b.types (drop m' (drop m t))) q') [
                  | image y f g ↦
                      let h = dest_at b.next seen t p in
                      let o = type_at b.types t (m + m') (rw (drop-drop m' m t) at f) in
                      let z : m + m' ≡ n - 2 = omega (arith, o.2) in
                      let w : 2 ≤ n = omega (arith, o.2) in
                      struct_at d fs y g h.0 h.1 o.1 (rw z at o.0) w
                ]
          ]
    ]

-- the same of a whole instruction
pub data StructFound (b : Bounds) (t : List ℕ) (i : Instruction) (n : ℕ) : Type 0 where
  struct_found : (d : ValueId) (fs : List FieldInit) (y : TypeId) → i.kind ≡ MakeStruct d fs y → d.0 ≡ at16 (drop (fields_place t) t) 0 → d.0 < b.next → y.0 < b.types → y.0 ≡ at16 t (n - 2) → 2 ≤ n → StructFound b t i n

pub find_struct : (b : Bounds) (t : List ℕ) (i : Instruction) (n : ℕ) → instruction_of b [] false t ≡ ok i n → kind_number i.kind ≡ 12 → StructFound b t i n
find_struct b t i n e h =
    let w = instruction_fields b [] false t i n e in
    let j : get_or t 1 0 ≡ 12 = sym w.numbered ∙ h in
    elim (struct_fields b [] (drop (fields_place t) t) i.kind w.size (rw j at w.read)) [
      | struct_at d fs y g a l m u two ↦
          let z : fields_place t + (w.size - 2) ≡ n - 2 = omega (arith, w.whole) in
          let big : 2 ≤ n = omega (arith, w.whole) in
          struct_found d fs y g a l m (u ∙ behind_16 (fields_place t) t (w.size - 2) ∙ ap (at16 t) z) big
    ]

-- an element that is there
found : {A : Type 0} (xs : List A) (k : ℕ) (o : Option A) → k < length xs → or_else (get_elem? xs k) o ≡ get_elem? xs k
unfolding or_else
found [] k o h = absurd (omega arith)
found (x ∷ xs) zero o h = refl
found (x ∷ xs) (suc k) o h = found xs k o (omega arith)

-- the row that a struct's parts go by
struct_row_lem : (b : Bounds) (s types recorded : List ℕ) (τ : Types) → Ground b s types recorded τ → (d : ValueId) (y : TypeId) → d.0 < b.next → struct_row τ d y ≡ row_of τ (some (goes_by (recorded_from (get_or recorded d.0 0)) y))
unfolding struct_row value_row recorded_type row_of or_else
struct_row_lem b s types recorded τ g d y l = go (get_or τ.recorded d.0 none) refl
  where
    n : recorded_from (get_or recorded d.0 0) ≡ get_or τ.recorded d.0 none
    n = ap recorded_from (g.known.recorded_types d.0 (omega (arith, g.values)) (omega (arith, g.values, g.known.long))) ∙ recorded_back _

    go : (o : Option TypeId) → get_or τ.recorded d.0 none ≡ o → or_else (row_of τ o) (row_of τ (some y)) ≡ row_of τ (some (goes_by (recorded_from (get_or recorded d.0 0)) y))
    go none e = rw (n, e) refl
    go (some t) e =
        let low : t.0 < length τ.rows = omega (arith, g.typed d.0 t e, g.rows) in
        rw (n, e) (found τ.rows t.0 (row_of τ (some y)) low)

-- the row of a struct's number is there
row_there : (l : List MirType) (k : ℕ) → shape (get_elem? l k) ≡ 2 → (k < length l) × (get_elem? l k ≡ some (get_or l k MirType.Unit))
unfolding shape
row_there [] k e = absurd (omega arith)
row_there (x ∷ l) zero e = (omega arith, refl)
row_there (x ∷ l) (suc k) e = let h = row_there l k e in (omega (arith, h.0), h.1)

data IsStruct (x : MirType) : Type 0 where
  is_struct_lem : (n : _) (ts : List StructField) → x ≡ MirType.Struct n ts → IsStruct x

struct_row_of : (x : MirType) → shape (some x) ≡ 2 → IsStruct x
unfolding shape
struct_row_of MirType.Felt e = absurd (omega arith)
struct_row_of MirType.Bool e = absurd (omega arith)
struct_row_of MirType.U32 e = absurd (omega arith)
struct_row_of (MirType.Tuple ts) e = absurd (omega arith)
struct_row_of (MirType.Struct n fs) e = is_struct_lem n fs refl
struct_row_of (MirType.FixedArray t size) e = absurd (omega arith)
struct_row_of (MirType.Pointer t) e = absurd (omega arith)
struct_row_of (MirType.Function ps r) e = absurd (omega arith)
struct_row_of MirType.Unit e = absurd (omega arith)
struct_row_of MirType.Error e = absurd (omega arith)
struct_row_of MirType.Unknown e = absurd (omega arith)

-- each name of a struct's row is given among so many inits at a place
abbrev EachGiven : List ℕ → ℕ → ℕ → List ℕ → Bool → Type 0
EachGiven t at count row answer =
    (next : ℕ) (fs : List FieldInit) (ts : List StructField)
    → Inits next t at fs → length fs ≡ count → Names row 4 ts → length ts ≡ get_or row 3 0 → answer ≡ is_some (from_struct_fields fs ts)

module _ (code : Code) (y : TypeId) (own : List ℕ) (shp : ℕ) (tells : OfType shape code y shp) where
  pub told_none : (shp ≡ 2 → ⊥) → TellsRow code y own false
  unfolding row_of is_struct is_some
  told_none h next most τ fs at l a m = let z = ne_eqb (shape (get_elem? τ.rows y.0)) 2 (λ q. h (tells most τ.rows at l ∙ q)) in rw z refl

  pub told_all : shp ≡ 2 → (count : ℕ) → count ≡ get_or own 2 0 → (row : List ℕ) → row ≡ drop (get_or code.facts.now y.0 0) code.bytes.now → (r : Bool) → EachGiven own 3 count row r → TellsRow code y own r
  unfolding row_of is_struct is_some struct_fields_of shape
  told_all h count cs row us r all next most τ fs at l a m =
      let z : shape (get_elem? τ.rows y.0) ≡ 2 = sym (tells most τ.rows at l) ∙ h in
      let w = row_there τ.rows y.0 z in
      let x = get_or τ.rows y.0 MirType.Unit in
      let q : shape (some x) ≡ 2 = sym (ap shape w.1) ∙ z in
      let p = rw (sym us) at (at.each y.0 w.0) in
      elim (struct_row_of x q) [
        | is_struct_lem nm ts g ↦
            let o = type_fields most y.0 row p g in
            let e : r ≡ is_some (from_struct_fields fs ts) = all next fs ts a (m ∙ sym cs) o.names o.many in
            rw (w.1, g) e
      ]

-- what the code says of a MakeStruct
module _ (code : Code) (σ : Settings) (cross : Marks) (t : List ℕ) (n : ℕ) where
  pub passes_short : n < 2 → Passes code σ cross t n false
  passes_short h τ i g e k = elim (find_struct code.bounds t i n e k) [ struct_found d fs y p a l m u two ↦ absurd (omega arith) ]

  module _ (named : TypeId) (ns : named.0 ≡ at16 t (n - 2)) (yes : Bool) (fits : OfType (is_scalarizable σ) code named yes) where
    -- the named type
    eligible_named : (τ : Types) → CodeGround code τ → (y : TypeId) → y.0 ≡ at16 t (n - 2) → is_scalarizable σ (row_of τ (some y)) ≡ yes
    unfolding row_of
    eligible_named τ g y u = let z : y.0 ≡ named.0 = u ∙ sym ns in rw z (sym (fits code.bounds.list τ.rows g.known.rows g.rows))

    pub passes_type : yes ≡ false → Passes code σ cross t n false
    unfolding buildable
    passes_type h τ i g e k = elim (find_struct code.bounds t i n e k) [ struct_found d fs y p a l m u two ↦ rw (p, eligible_named τ g y u, h) refl ]

    module _ (ok_type : yes ≡ true) (d : ℕ) (ds : d ≡ at16 (drop (fields_place t) t) 0) (marked : Bool) (ms : marked ≡ get_or cross d false) where
      pub passes_marked : marked ≡ true → Passes code σ cross t n false
      unfolding buildable
      passes_marked h τ i g e k =
          elim (find_struct code.bounds t i n e k) [
            | struct_found v fs y p a l m u two ↦
                let z : get_or cross v.0 false ≡ true = ap (λ c. get_or cross c false) (a ∙ sym ds) ∙ sym ms ∙ h in
                rw (p, eligible_named τ g y u, ok_type, z) refl
          ]

      pub passes_told : marked ≡ false → (w : TypeId) → w ≡ goes_by (recorded_from (get_or (recorded_in code.facts.now) d 0)) named → (r : Bool) → TellsRow code w (drop (fields_place t) t) r → Passes code σ cross t n r
      unfolding buildable struct_parts
      passes_told h w ws r tells τ i g e k =
          elim (find_struct code.bounds t i n e k) [
            | struct_found v fs y p a l m u two ↦
                let same : v.0 ≡ d = a ∙ sym ds in
                let z : get_or cross v.0 false ≡ false = ap (λ c. get_or cross c false) same ∙ sym ms ∙ h in
                let o : w ≡ goes_by (recorded_from (get_or (recorded_in code.facts.now) v.0 0)) y = ws ∙ ap (λ c. goes_by (recorded_from (get_or (recorded_in code.facts.now) c 0)) named) (sym same) ∙ ap (λ x. goes_by (recorded_from (get_or (recorded_in code.facts.now) v.0 0)) (typed x)) (ns ∙ sym u) in
                let f = own_inits code.bounds [] false t i n {d = v} {fs = fs} {y = y} e p in
                let q = tells code.bounds.next code.bounds.list τ fs g.known.rows g.rows f.0 f.1 in
                rw (p, eligible_named τ g y u, ok_type, z, struct_row_lem code.bounds code.bytes.now code.facts.now (recorded_in code.facts.now) τ g v y l, ← o) q
          ]

-- the first k flags stand
pub record Filling (code : Code) (slots : Slots) (σ : Settings) (cross : Marks) (structs₀ : List Bool) (k : ℕ) (structs : List Bool) : Type 0 where
  pub low : k ≤ slots.count
  pub long : length structs ≡ length structs₀
  pub told : slots.count ≤ length structs₀ → (j : ℕ) → j < k → StructTold code σ cross (slots.first + j) (get_or structs j false)
