-- Where a copy's source and dest stand, and the base that a Load or Store looks into.
use Prim.Native.Nat.{ℕ, ◌-◌}
use mathlib.Core.Path.{◌≡◌, refl, ap, ◌∙◌, sym}
use mathlib.Core.List.{List, [], ◌∷◌}
use mathlib.Core.Bool.{Bool, true, false, not, ◌||◌, true≢false}
use mathlib.Core.Logic.{◌⊎◌, ⊎_elim}
use mathlib.Core.Option.{Option, none, some}
use native.Mathlib.Omega.{arith}
use native.Mathlib.Nat.{add_comm}
use borrow.Author.Tests.{ne_eqb}
use lib.ListN.{length, get_or, get_elem?, set, drop}
use lib.Seq.{drop-drop, get_or-drop}
use lib.Dec.{eqb}
use Rattle.bytes_wire.specs.Parse.{as_parse, Parse, ok, and_then, map_parse}
use Rattle.bytes_wire.specs.Number.{u32_of, below, at16}
use Rattle.bytes_wire.specs.Value.{value_of, value_id_of}
use Rattle.bytes_wire.specs.declared.Cause.{Cause}
use Rattle.bytes_wire.specs.declared.Read.{Read}
use Rattle.bytes_wire.specs.declared.Refusal.{Refusal}
use Rattle.std.specs.Prelude.{Result, Ok}
use Rattle.mir.specs.declared.TypeId.{TypeId}
use Rattle.mir.specs.declared.Value.{Value}
use Rattle.mir.specs.declared.ValueId.{ValueId}
use Rattle.bytes_wire.proofs.Laws.{from_16}
use Rattle.bytes_wire.proofs.Inv.{both, image, and_inv, map_inv, checked_inv, number_inv, below_inv}
use Rattle.mir.specs.declared.Projection.{Projection}
use Rattle.mir.specs.declared.Projection.TheVariants.{Index, Field, Tuple}
use Rattle.mir.specs.Syntax.{Place, Instruction, InstructionKind}
use Rattle.mir.specs.Syntax.{Assign, UnaryOp, BinaryOp, Call, Cast, Load, Store, Debug, Nop, Phi}
use Rattle.mir.specs.Syntax.{MakeTuple, ExtractTupleElement, MakeStruct, ExtractStructField, InsertField, InsertTuple, MakeFixedArray, AssertEq, HeapAllocCells}
use Rattle.mir.specs.Reads.{kind_number, reads}
use Rattle.bytes_field.specs.Decode.{defined_of, type_id_of, name_id_of, instruction_of, assign_of, insert_field_of, insert_tuple_of}
use Rattle.bytes_field.specs.declared.Bounds.{Bounds}
use Rattle.bytes_index.specs.declared.code.Code.{Code}
use Rattle.bytes_index.specs.Table.{row_at, row_number, place_in, end_in, kind_in, ReadsIn}
use Rattle.bytes_index.specs.Code.{InstructionIn}
use Rattle.bytes_types.specs.Index.{TypesAt}
use Rattle.mir.specs.declared.shape.Shape.{Shape}
use Rattle.mir.specs.Shape.{number_of_shape}
use Rattle.bytes_operands.specs.Fields.{fields_place, place_steps}
use Rattle.bytes_operands.proofs.Instruction.{chosen, instruction_fields, fields_read}
use Rattle.mir.specs.Lookup.{Types, row_of, shape}
use Rattle.fold.specs.Family.{Marks, accessed, dynamic_first}
use Rattle.fold_family.specs.Copies.{any_shape, Copy, copied, assigned, copy_of, dynamic_step, dynamic_place}
use Rattle.fold_shapes.specs.Shapes.{OfType}
use Rattle.fold_copies.specs.Found.{RowOf, ValueCopy, AssignCopy, CopyFound, DynamicNoted}

-- a value's number takes two bytes
id_at : (next : ℕ) (u : List ℕ) {d : ValueId} {m : ℕ} → value_id_of next u ≡ ok d m → (d.0 ≡ at16 u 0) × (m ≡ 2)
id_at next u e =
    elim (map_inv (λ x. record { 0 = x }) (below next u) e) [
      | image x f g ↦ let k = number_inv 2 u (below_inv next u f).0 in (ap (λ y. y.0) g ∙ k.1 ∙ from_16 u 0, k.2)
    ]

-- so does one that is defined here
pub dest_at : (next : ℕ) (seen : List Bool) (u : List ℕ) {d : ValueId} {m : ℕ} → defined_of next seen u ≡ ok d m → (d.0 ≡ at16 u 0) × (m ≡ 2)
dest_at next seen u e = id_at next u (checked_inv Cause.Redefined (λ d. not (get_or seen d.0 false)) (value_id_of next u) e).0

-- a type's number
type_at : (types : ℕ) (u : List ℕ) {t : TypeId} {m : ℕ} → type_id_of types u ≡ ok t m → t.0 ≡ at16 u 0
type_at types u e =
    elim (map_inv (λ x. record { 0 = x }) (below types u) e) [ image x f g ↦ ap (λ y. y.0) g ∙ (number_inv 2 u (below_inv types u f).0).1 ∙ from_16 u 0 ]

-- the place behind two bytes and m others, found either way
behind_two : (u : List ℕ) (m : ℕ) → at16 (drop m (drop 2 u)) 0 ≡ at16 (drop m u) 2
behind_two u m =
    let e : drop m (drop 2 u) ≡ drop 2 (drop m u) = rw (drop-drop, drop-drop) (ap (λ n. drop n u) (add_comm 2 m)) in
    sym (from_16 (drop m (drop 2 u)) 0) ∙ rw e (from_16 (drop m u) 2)

-- the fields of kind j stand at u
pub record FieldsRead (b : Bounds) (t u : List ℕ) (j : ℕ) (k : InstructionKind) : Type 0 where
  pub size : ℕ
  pub read : chosen b [] (get_or t 0 0) j u ≡ ok k size

-- what stands in an insert, and in an Assign: the value, and the copy
pub record InsertAt (next : ℕ) (u : List ℕ) (k : InstructionKind) : Type 0 where
  pub value : Value
  pub took : ℕ
  pub read : value_of next (drop 2 u) ≡ ok value took
  pub copy : (τ : Types) → copy_of τ k ≡ copied 0 value (at16 u 0)

pub record AssignAt (next : ℕ) (u : List ℕ) (k : InstructionKind) : Type 0 where
  pub value : Value
  pub took : ℕ
  pub read : value_of next (drop 2 u) ≡ ok value took
  pub copy : (τ : Types) → copy_of τ k ≡ assigned (shape (row_of τ (some (record { 0 = at16 (drop took u) 2 })))) value (at16 u 0)

-- a dest, a value, and what is made of both with the rest
dest_value : {A : Type 0} (b : Bounds) (u : List ℕ) (f : ValueId → Value → List ℕ → Parse A) {a : A} {n : ℕ} (P : A → Type 0) → ((d : ValueId) (x : Value) (m j : ℕ) → d.0 ≡ at16 u 0 → value_of b.next (drop 2 u) ≡ ok x m → f d x (drop m (drop 2 u)) ≡ ok a j → P a) → and_then u (defined_of b.next [] u) (λ d s. and_then s (value_of b.next s) (λ x s. f d x s)) ≡ ok a n → P a
dest_value b u f {a} P g e =
    elim (and_inv u (defined_of b.next [] u) (λ d s. and_then s (value_of b.next s) (λ x s. f d x s)) e) [
      | both d m j p q r ↦
          let h = dest_at b.next [] u p in
          elim (and_inv (drop m u) (value_of b.next (drop m u)) (λ x s. f d x s) q) [
            | both x m2 j2 p2 q2 r2 ↦
                let z : m ≡ 2 = h.1 in
                let v : value_of b.next (drop 2 u) ≡ ok x m2 = rw z at p2 in
                let w : f d x (drop m2 (drop 2 u)) ≡ ok a j2 = rw z at q2 in
                g d x m2 j2 h.0 v w
          ]
    ]

assign_at : (b : Bounds) (u : List ℕ) {k : InstructionKind} {n : ℕ} → assign_of b [] u ≡ ok k n → AssignAt b.next u k
unfolding assign_of
assign_at b u {k} e =
    dest_value b u (λ d x s. map_parse (λ t. Assign d x t) (type_id_of b.types s)) (AssignAt b.next u)
    (λ d x m j p q r.
    elim (map_inv (λ t. Assign d x t) (type_id_of b.types (drop m (drop 2 u))) r) [
      | image t f g ↦
          let z : t.0 ≡ at16 (drop m u) 2 = type_at b.types (drop m (drop 2 u)) f ∙ behind_two u m in
          rw g record { value = x; took = m; read = q; copy = λ τ. rw (← z, ← p) }
    ])
    e

insert_field_at : (b : Bounds) (u : List ℕ) {k : InstructionKind} {n : ℕ} → insert_field_of b [] u ≡ ok k n → InsertAt b.next u k
unfolding insert_field_of
insert_field_at b u {k} e =
    dest_value b u (λ d x s. and_then s (name_id_of s) (λ n s. and_then s (value_of b.next s) (λ y s. map_parse (λ t. InsertField d x n y t) (type_id_of b.types s)))) (InsertAt b.next u)
    (λ d x m j p q r.
    let s = drop m (drop 2 u) in
    elim (and_inv s (name_id_of s) (λ n s. and_then s (value_of b.next s) (λ y s. map_parse (λ t. InsertField d x n y t) (type_id_of b.types s))) r) [
      | both n m2 j2 p2 q2 r2 ↦
          elim (and_inv (drop m2 s) (value_of b.next (drop m2 s)) (λ y s. map_parse (λ t. InsertField d x n y t) (type_id_of b.types s)) q2) [
            | both y m3 j3 p3 q3 r3 ↦
                elim (map_inv (λ t. InsertField d x n y t) (type_id_of b.types (drop m3 (drop m2 s))) q3) [ image t f g ↦ rw g record { value = x; took = m; read = q; copy = λ τ. rw (← p) } ]
          ]
    ])
    e

insert_tuple_at : (b : Bounds) (u : List ℕ) {k : InstructionKind} {n : ℕ} → insert_tuple_of b [] u ≡ ok k n → InsertAt b.next u k
unfolding insert_tuple_of
insert_tuple_at b u {k} e =
    dest_value b u (λ d x s. and_then s (u32_of s) (λ n s. and_then s (value_of b.next s) (λ y s. map_parse (λ t. InsertTuple d x n y t) (type_id_of b.types s)))) (InsertAt b.next u)
    (λ d x m j p q r.
    let s = drop m (drop 2 u) in
    elim (and_inv s (u32_of s) (λ n s. and_then s (value_of b.next s) (λ y s. map_parse (λ t. InsertTuple d x n y t) (type_id_of b.types s))) r) [
      | both n m2 j2 p2 q2 r2 ↦
          elim (and_inv (drop m2 s) (value_of b.next (drop m2 s)) (λ y s. map_parse (λ t. InsertTuple d x n y t) (type_id_of b.types s)) q2) [
            | both y m3 j3 p3 q3 r3 ↦
                elim (map_inv (λ t. InsertTuple d x n y t) (type_id_of b.types (drop m3 (drop m2 s))) q3) [ image t f g ↦ rw g record { value = x; took = m; read = q; copy = λ τ. rw (← p) } ]
          ]
    ])
    e

-- what a reader of a value has answered
pub got_size : {x : Result (Read Value) Refusal} {r : Read Value} {v : Value} {n : ℕ} → x ≡ Ok r → as_parse x ≡ ok v n → r.size ≡ n
got_size {x} {r} {v} {n} p e = let f : ok r.value r.size ≡ ok v n = sym (ap as_parse p) ∙ e in cc

-- a shape is Other where its number is 0
pub other_shape : (k : Shape) → (k ≡ Shape.Other → ⊥) → number_of_shape k ≡ 0 → ⊥
other_shape Shape.Other h e = h refl
other_shape Shape.Tuple h e = absurd (let z : ◌≡◌ {A = ℕ} 1 0 = e in omega (arith, z))
other_shape Shape.Struct h e = absurd (let z : ◌≡◌ {A = ℕ} 2 0 = e in omega (arith, z))
other_shape Shape.FixedArray h e = absurd (let z : ◌≡◌ {A = ℕ} 3 0 = e in omega (arith, z))

-- an Assign's type, and whether that makes it a copy
module _ (code : Code) (u w : List ℕ) (x : Result (Read Value) Refusal) (y : Read Value) (t k : ℕ) (got : x ≡ Ok y) (ew : w ≡ drop y.size u) (et : t ≡ at16 w 2) (ek : OfType shape code (record { 0 = t }) k) where
  shape_of : (most : ℕ) (τ : Types) (v : Value) (n : ℕ) → TypesAt most code.bytes.now code.facts.now τ.rows → length τ.rows ≡ code.bounds.types → as_parse x ≡ ok v n → k ≡ shape (row_of τ (some (record { 0 = at16 (drop n u) 2 })))
  unfolding row_of
  shape_of most τ v n a l e = ek most τ.rows a l ∙ ap (λ q. shape (get_elem? τ.rows q)) (et ∙ ap (λ q. at16 q 2) (ew ∙ ap (λ q. drop q u) (got_size got e)))

  pub assigned_none : k ≡ 0 → AssignCopy code u x none
  assigned_none h most τ v n a l e = ap (λ q. assigned q v (at16 u 0)) (sym h ∙ shape_of most τ v n a l e)

  pub assigned_copied : (k ≡ 0 → ⊥) → (r : Option Copy) → ValueCopy u x k r → AssignCopy code u x r
  assigned_copied h r f most τ v n a l e =
      let z : copied k v (at16 u 0) ≡ assigned k v (at16 u 0) = rw (ne_eqb k 0 h) in
      f v n e ∙ z ∙ ap (λ q. assigned q v (at16 u 0)) (shape_of most τ v n a l e)

-- the instruction at the head of t, and its kind
pub record Headed (b : Bounds) (t : List ℕ) (kind : ℕ) (i : Instruction) : Type 0 where
  pub size : ℕ
  pub read : instruction_of b [] false t ≡ ok i size
  pub numbered : kind ≡ kind_number i.kind

-- a slot's instruction stands at the head of the bytes from its place on
pub headed : (b : Bounds) (s facts : List ℕ) (slot : ℕ) (i : Instruction) {t : List ℕ} → t ≡ drop (place_in facts slot) s → InstructionIn b s facts slot i → Headed b t (kind_in facts slot) i
headed b s facts slot i et a = record { size = end_in facts slot - place_in facts slot; read = rw et a.read; numbered = a.kind }

-- number j of a row, and its instruction at the head of the bytes likewise
row_at_head : (code : Code) (row : List ℕ) (i : Instruction) (j : ℕ) (a : RowOf code row i) → get_or row j 0 ≡ row_number code.facts.now a.slot j
row_at_head code row i j a = ap (λ l. get_or l j 0) a.behind ∙ get_or-drop (row_at a.slot) code.facts.now j 0

row_headed : (code : Code) (row : List ℕ) (i : Instruction) {t : List ℕ} → t ≡ drop (get_or row 0 0) code.bytes.now → RowOf code row i → Headed code.bounds t (get_or row 2 0) i
row_headed code row i et a =
    rw (row_at_head code row i 2 a)
    (headed code.bounds code.bytes.now code.facts.now a.slot i (et ∙ ap (λ n. drop n code.bytes.now) (row_at_head code row i 0 a)) a.stands)

-- the fields of the instruction at the head of t, its kind being known
pub fields_of : (b : Bounds) (t : List ℕ) {u : List ℕ} {fp kind : ℕ} (j : ℕ) → fp ≡ fields_place t → u ≡ drop fp t → (i : Instruction) → Headed b t kind i → kind ≡ j → FieldsRead b t u j i.kind
fields_of b t j ef eu i a h =
    let k = instruction_fields b [] false t i a.size a.read in
    record { size = _; read = fields_read b t ef eu (a.numbered ∙ k.numbered) i a.size a.read j h }

-- what copy_at finds: the instruction stands at the head of t, its own fields are u, and x was read behind the first of them
module _ (code : Code) (row t u : List ℕ) (x : Result (Read Value) Refusal) (r : Option Copy)
    (et : t ≡ drop (get_or row 0 0) code.bytes.now) (eu : u ≡ drop (fields_place t) t) (ex : as_parse x ≡ value_of code.bounds.next (drop 2 u)) where
  abbrev b : Bounds
  b = code.bounds

  abbrev kind : ℕ
  kind = get_or row 2 0

  fields : (j : ℕ) (i : Instruction) → RowOf code row i → kind ≡ j → FieldsRead b t u j i.kind
  fields j i a h = fields_of b t j refl eu i (row_headed code row i et a) h

  found_assigned : (τ : Types) (i : InstructionKind) → ((y : Value) (n : ℕ) → as_parse x ≡ ok y n → r ≡ assigned (shape (row_of τ (some (record { 0 = at16 (drop n u) 2 })))) y (at16 u 0)) → AssignAt b.next u i → r ≡ copy_of τ i
  found_assigned τ i f k = f k.value k.took (ex ∙ k.read) ∙ sym (k.copy τ)

  pub found_assign : kind ≡ 0 → AssignCopy code u x r → CopyFound code row r
  found_assign h f most τ i a m e = found_assigned τ i.kind (λ y q. f most τ y q a m) (assign_at b u (fields 0 i e h).read)

  found_inserted : ValueCopy u x any_shape r → (τ : Types) (i : InstructionKind) → InsertAt b.next u i → r ≡ copy_of τ i
  found_inserted f τ i k = f k.value k.took (ex ∙ k.read) ∙ sym (k.copy τ)

  pub found_insert : (kind ≡ 14) ⊎ (kind ≡ 15) → ValueCopy u x any_shape r → CopyFound code row r
  found_insert k f most τ i w m a =
      ⊎_elim
      (λ h. found_inserted f τ i.kind (insert_field_at b u (fields 14 i a h).read))
      (λ h. found_inserted f τ i.kind (insert_tuple_at b u (fields 15 i a h).read)) k

-- the first step of a place
first_step : (ps : List Projection) → dynamic_step (get_elem? ps 0) ≡ dynamic_first ps
unfolding dynamic_first
first_step [] = refl
first_step (Index x ∷ ps) = refl
first_step (Field n ∷ ps) = refl
first_step (Tuple k ∷ ps) = refl

-- only a Load and a Store have a place
place_cases : (P : InstructionKind → Type 0) → ((d : ValueId) (p : Place) (t : TypeId) → P (Load d p t)) → ((p : Place) (x : Value) (t : TypeId) → P (Store p x t)) → ((i : InstructionKind) → accessed i ≡ none → place_steps i ≡ [] → P i) → (i : InstructionKind) → P i
unfolding accessed
place_cases P f g h (Load d p t) = f d p t
place_cases P f g h (Store p x t) = g p x t
place_cases P f g h (Assign d x t) = h (Assign d x t) refl refl
place_cases P f g h (UnaryOp op d x) = h (UnaryOp op d x) refl refl
place_cases P f g h (BinaryOp op d x y) = h (BinaryOp op d x y) refl refl
place_cases P f g h (Call ds c xs ps rs) = h (Call ds c xs ps rs) refl refl
place_cases P f g h (Cast d x t u) = h (Cast d x t u) refl refl
place_cases P f g h (Debug n xs) = h (Debug n xs) refl refl
place_cases P f g h Nop = h Nop refl refl
place_cases P f g h (Phi d t ss) = h (Phi d t ss) refl refl
place_cases P f g h (MakeTuple d xs) = h (MakeTuple d xs) refl refl
place_cases P f g h (ExtractTupleElement d x k t) = h (ExtractTupleElement d x k t) refl refl
place_cases P f g h (MakeStruct d fs t) = h (MakeStruct d fs t) refl refl
place_cases P f g h (ExtractStructField d x n t) = h (ExtractStructField d x n t) refl refl
place_cases P f g h (InsertField d x n y t) = h (InsertField d x n y t) refl refl
place_cases P f g h (InsertTuple d x k y t) = h (InsertTuple d x k y t) refl refl
place_cases P f g h (MakeFixedArray d xs t c) = h (MakeFixedArray d xs t c) refl refl
place_cases P f g h (AssertEq x y) = h (AssertEq x y) refl refl
place_cases P f g h (HeapAllocCells d x) = h (HeapAllocCells d x) refl refl

-- what note_dynamic finds
module _ (code : Code) (row : List ℕ) (d : Marks) where
  -- another kind
  pub noted_other : (eqb (get_or row 2 0) 5 || eqb (get_or row 2 0) 6) ≡ false → DynamicNoted code row d d
  unfolding accessed
  noted_other f i a =
      let e : get_or row 2 0 ≡ kind_number i.kind = row_at_head code row i 2 a ∙ a.stands.kind in
      place_cases (λ k. (eqb (kind_number k) 5 || eqb (kind_number k) 6) ≡ false → d ≡ dynamic_place d (accessed k))
      (λ e p t z. absurd (true≢false z)) (λ p x t z. absurd (true≢false z)) (λ k n q z. rw n) i.kind (rw e at f)

  module _ (t : List ℕ) (et : t ≡ drop (get_or row 0 0) code.bytes.now) (r : Bool)
      (e : (i : Instruction) (n : ℕ) → instruction_of code.bounds [] false t ≡ ok i n → r ≡ dynamic_step (get_elem? (place_steps i.kind) 0)) where
    found : (i : Instruction) → RowOf code row i → dynamic_step (get_elem? (place_steps i.kind) 0) ≡ r
    found i a = let h = row_headed code row i et a in sym (e i h.size h.read)

    -- without such a step nothing is noted
    pub noted_static : r ≡ false → DynamicNoted code row d d
    unfolding accessed
    noted_static h i a =
        place_cases (λ k. dynamic_step (get_elem? (place_steps k) 0) ≡ false → d ≡ dynamic_place d (accessed k))
        (λ e p t z. rw (← first_step p.projections, z))
        (λ p x t z. rw (← first_step p.projections, z))
        (λ k n q z. rw n)
        i.kind (found i a ∙ h)

    -- with one, the base, which is the first read
    pub noted_dynamic : r ≡ true → (base : ℕ) → base ≡ get_or row 4 0 → {m : Marks} → m ≡ set d base true → DynamicNoted code row d m
    unfolding accessed
    noted_dynamic h base eb {m} em i a =
        let er : base ≡ row_number code.facts.now a.slot 4 = eb ∙ row_at_head code row i 4 a in
        place_cases (λ k. ReadsIn code.facts.now a.slot (reads k) → dynamic_step (get_elem? (place_steps k) 0) ≡ true → m ≡ dynamic_place d (accessed k))
        (λ e p t f q. let y : base ≡ p.base.0 = er ∙ f.each 0 (omega arith) in em ∙ rw (← first_step p.projections, q, y))
        (λ p x t f q. let y : base ≡ p.base.0 = er ∙ f.each 0 (omega arith) in em ∙ rw (← first_step p.projections, q, y))
        (λ k n s f q. absurd (let y : dynamic_step (get_elem? [] 0) ≡ true = rw s at q in true≢false (sym y)))
        i.kind a.stands.reads_in (found i a ∙ h)
