-- The step of each kind, from what the code has found of the instruction.
use Prim.Native.Nat.{ℕ, ◌+◌, ◌-◌, ◌≤◌, ◌<◌}
use mathlib.Core.Path.{◌≡◌, refl, ap, ◌∙◌, sym}
use mathlib.Core.List.{List, []}
use mathlib.Core.Bool.{Bool, true, false, cond, ◌&&◌}
use mathlib.Core.Option.{Option, none, some}
use native.Mathlib.Omega.{arith}
use lib.ListN.{length, get_or, get_elem?, drop}
use lib.Seq.{drop-drop, get_or-drop}
use Rattle.bytes_wire.specs.Parse.{ok}
use Rattle.bytes_wire.specs.Number.{at16, at32}
use Rattle.bytes_wire.specs.Value.{value_of}
use Rattle.mir.specs.declared.Value.{Value}
use Rattle.mir.specs.declared.ValueId.{ValueId}
use Rattle.mir.specs.declared.TypeId.{TypeId}
use Rattle.mir.specs.declared.NameId.{NameId}
use Rattle.mir.specs.Syntax.{Place, FieldInit, Instruction, InstructionKind}
use Rattle.mir.specs.Reads.{kind_number}
use Rattle.bytes_field.specs.Decode.{bit}
use Rattle.bytes_field.specs.declared.Bounds.{Bounds}
use Rattle.bytes_index.specs.Table.{place_in, end_in}
use Rattle.bytes_operands.specs.Fields.{list_values, fields_place, value_end}
use Rattle.bytes_operands.proofs.EachKind.{At}
use Rattle.bytes_operands.proofs.Values.{value_behind}
use Rattle.bytes_operands.proofs.Instruction.{chosen, instruction_fields}
use Rattle.fold.specs.declared.Settings.{Settings}
use Rattle.mir.specs.Lookup.{Types, row_of, is_aggregate, on_some}
use Rattle.bytes_struct.specs.FindField.{find_field, field_index}
use Rattle.bytes_struct.specs.declared.FoundField.{FoundField}
use Rattle.std.specs.Prelude.{Option as Answered}
use Rattle.mir.specs.Parts.{struct_parts}
use Rattle.fold.specs.Family.{Marks, build_dest}
use Rattle.rewrite.specs.State.{AggStates, state_of, replaced, first_integer}
use Rattle.rewrite.specs.Rebuild.{aggregate_type}
use Rattle.rewrite.specs.Piece.{Piece}
use Rattle.rewrite.specs.Stays.{guarded, stays}
use Rattle.rewrite.specs.Step.{step, step_kind, step_build, folded_parts, step_insert, step_load, step_assign, extract_index, walkable}
use Rattle.rewrite_parts.specs.Rows.{ValueAt, Values, Inits, InitAt}
use Rattle.rewrite_parts.specs.Here.{Here}
use Rattle.rewrite_parts.proofs.Builds.{build_values, build_inits}
use Rattle.rewrite_chains.specs.Chained.{loaded_part, OfPlace, of_load}
use Rattle.rewrite_arms.specs.Decided.{Planned, SpotAt, Below, step_taken, acts}
use Rattle.rewrite_arms.specs.declared.Plan.{Plan}
use Rattle.rewrite_arms.specs.declared.spot.Spot.{Spot}
use Rattle.rewrite_arms.proofs.Arms.{behind_16, behind_32, behind_value, value_below, taken_extract, whole_aggregate, load_taken}
use Rattle.rewrite_arms.proofs.Own.{Named, Dest, IsAssign, is_assign, assign_stands, IsLoad, is_load, load_stands, IsTuple, is_tuple_lem, tuple_stands, IsArray, is_array_lem, array_stands, IsStruct, is_struct_lem, struct_stands}
use Rattle.rewrite_arms.proofs.Own.{IsElement, is_element, element_stands, IsField, is_field, field_stands, IsInsertField, is_insert_field, insert_field_stands, IsInsertElement, is_insert_element, insert_element_stands}

-- one of two that is off
guard_not : (on : Bool) (stay p : Piece) → guarded (on && false) stay p ≡ stay
unfolding guarded
guard_not true stay p = refl
guard_not false stay p = refl

-- a kind that is looked at
pub acting : (tuples structs fold : Bool) {on : Bool} {j : ℕ} (k : ℕ) → on ≡ acts tuples structs fold j → on ≡ true → j ≡ k → acts tuples structs fold k ≡ true
acting tuples structs fold k e f g = sym (ap (acts tuples structs fold) g) ∙ sym e ∙ f

module _ {b : Bounds} {s facts : List ℕ} {slot : ℕ} {tracked : Marks} {rows : List ℕ} {used : ℕ} {τ : Types} {S : AggStates} {i : Instruction} {p : Spot} (h : Here b s facts slot tracked rows used τ S i) (spot : SpotAt s facts slot p) where
  -- its place, and how long it is
  abbrev from : ℕ
  from = place_in facts slot

  abbrev long : ℕ
  long = end_in facts slot - from

  -- the decoder of the kind has read the fields
  record Chosen (k : ℕ) : Type 0 where
    size : ℕ
    kind : k ≡ get_or (drop from s) 1 0
    read : chosen b [] (get_or (drop from s) 0 0) k (drop p.off s) ≡ ok i.kind size
    ends : p.end ≡ p.off + size

  chose : (k : ℕ) → kind_number i.kind ≡ k → Chosen k
  chose k e =
      let u = drop from s in
      let f = instruction_fields b [] false u i long h.line.read in
      let own : drop p.off s ≡ drop (fields_place u) u = sym (drop-drop (fields_place u) from s ∙ ap (λ o. drop o s) (sym spot.fields)) in
      let n : k ≡ get_or u 1 0 = sym e ∙ f.numbered in
      record {
        size = f.size;
        kind = n;
        read = ap (λ a. chosen b [] (get_or u 0 0) a (drop p.off s)) n ∙ ap (λ a. chosen b [] (get_or u 0 0) (get_or u 1 0) a) own ∙ f.read;
        ends = omega (arith, f.whole, spot.fields, spot.ends, h.line.rises);
      }

  -- the dest is the one that the first field says
  dest_is : {d : ValueId} → Dest b (drop p.off s) 0 d → p.dest ≡ d
  dest_is {d} e =
      let z : p.off + 0 ≡ p.off = omega arith in
      let w : p.dest.0 ≡ d.0 = spot.dest ∙ sym (e.0 ∙ behind_16 p.off 0 s ∙ ap (λ q. at16 s q) z) in
      ap (λ x. record { 0 = x }) w

  dest_below : {d : ValueId} → Dest b (drop p.off s) 0 d → p.dest.0 < b.next
  dest_below {d} e = rw (dest_is e) e.1

  -- what the code has read of it: the value behind the dest, and the type that stands last
  abbrev Operand : Value → Type 0
  Operand x = (y : Value) → ValueAt b.next s (p.off + 2) y → x ≡ y

  abbrev Typed : TypeId → Type 0
  Typed t = 2 ≤ p.end → t.0 ≡ at16 s (p.end - 2)

  type_is : {k e : ℕ} {y t : TypeId} (c : Chosen k) → Named (drop p.off s) y e → e ≡ 0 + c.size → Typed t → t ≡ y
  type_is {k} {e} {y} {t} c w z f =
      let q : p.end - 2 ≡ p.off + w.place = omega (arith, c.ends, w.ends) in
      let v : t.0 ≡ y.0 = f (omega (arith, c.ends, w.ends)) ∙ ap (λ a. at16 s a) q ∙ sym (behind_16 p.off w.place s) ∙ sym w.named in
      ap (λ x. record { 0 = x }) v

  operand_is : {x y : Value} → Operand x → At (value_of b.next) (drop p.off s) 2 y → x ≡ y
  operand_is {x} {y} f v = f y (value_behind b.next s p.off 2 (p.off + 2) y refl v)

  -- the number behind that value
  index_is : {j k end : ℕ} → j ≡ at32 (drop p.off s) (value_end (drop p.off s) 2) → end ≡ value_end s (p.off + 2) → k ≡ at32 s end → j ≡ k
  index_is q fe fk = q ∙ behind_32 p.off (value_end (drop p.off s) 2) s ∙ ap (λ o. at32 s o) (behind_value p.off 2 s ∙ sym fe) ∙ sym fk

  name_is : {j name : NameId} {end : ℕ} → j.0 ≡ at16 (drop p.off s) (value_end (drop p.off s) 2) → end ≡ value_end s (p.off + 2) → name.0 ≡ at16 s end → j ≡ name
  name_is {j} {name} q fe fk =
      let n : j.0 ≡ name.0 = q ∙ behind_16 p.off (value_end (drop p.off s) 2) s ∙ ap (λ o. at16 s o) (behind_value p.off 2 s ∙ sym fe) ∙ sym fk in
      ap (λ o. record { 0 = o }) n

  module _ (σ : Settings) (folds : ValueId → Bool) (m : ℕ) where
    abbrev Plans : Plan → Piece → Type 0
    Plans r x = Planned b.next s facts S (stays σ τ S m i) p x r

    abbrev Done : Plan → Type 0
    Done r = Plans r (step σ τ folds S m i)

    -- what is looked at under a setting that is on
    under : {r : Plan} {x : Piece} (on : Bool) → on ≡ true → Plans r x → Plans r (guarded on (stays σ τ S m i) x)
    unfolding guarded
    under on e f = rw e f

    -- an Assign
    pub assign_step : {r : Plan} → kind_number i.kind ≡ 0 → (x : Value) (t : TypeId) (whole : Bool) → Operand x → Typed t → whole ≡ is_aggregate (row_of τ (some t)) → (p.dest.0 < b.next → Plans r (step_assign S (stays σ τ S m i) p.dest (cond whole (state_of S x) none))) → Done r
    unfolding step step_kind
    assign_step {r} e x t whole fx ft fw f = go i.kind (0 + c.size) ((assign_stands b (drop p.off s)).each i.kind c.size c.read) refl
      where
        c : Chosen 0
        c = chose 0 e

        go : (k : InstructionKind) (a : ℕ) → IsAssign b (drop p.off s) k a → a ≡ 0 + c.size → Plans r (step_kind σ τ folds S m i k)
        go k a (is_assign d y u dd v w) z =
            let o : on_some (aggregate_type τ u) (λ v. state_of S y) ≡ cond whole (state_of S x) none = rw (← type_is c w z ft, ← operand_is fx v) (whole_aggregate τ t whole (state_of S x) fw) in
            rw (← dest_is dd, o) (f (dest_below dd))

    -- a Load
    -- whether its place is walked
    abbrev Walks : Bool → Type 0
    Walks b = (q : Place) → OfPlace i.kind 5 q → b ≡ walkable σ.edition q

    pub load_barred : {walks : Bool} → kind_number i.kind ≡ 5 → Walks walks → walks ≡ false → step σ τ folds S m i ≡ stays σ τ S m i
    unfolding step step_kind guarded
    load_barred {walks} e fw off = go i.kind (0 + c.size) ((load_stands b (drop p.off s)).each i.kind c.size c.read) refl
      where
        c : Chosen 5
        c = chose 5 e

        go : (k : InstructionKind) (a : ℕ) → IsLoad b (drop p.off s) k a → i.kind ≡ k → step_kind σ τ folds S m i k ≡ stays σ τ S m i
        go k a (is_load d q u dd w) j =
            let none_walks : walkable σ.edition q ≡ false = sym (fw q (rw j (of_load d q u))) ∙ off in
            rw none_walks (guard_not σ.tuples _ _)

    pub load_step : {r : Plan} {walks : Bool} → kind_number i.kind ≡ 5 → σ.tuples ≡ true → Walks walks → walks ≡ true → (t : TypeId) (whole : Bool) (init : Answered ℕ) → Typed t → whole ≡ is_aggregate (row_of τ (some t)) → ((d : ValueId) (q : Place) (y : TypeId) → i.kind ≡ InstructionKind.Load d q y → InitAt b.next s (loaded_part τ S q) init)
        → ((o : Option Value) → p.dest.0 < b.next → InitAt b.next s o init → Plans r (step_taken whole S (stays σ τ S m i) p.dest t o)) → Done r
    unfolding step step_kind guarded
    load_step {r} {walks} e on fwalks walked t whole init ft fw fi f = go i.kind (0 + c.size) ((load_stands b (drop p.off s)).each i.kind c.size c.read) refl refl
      where
        c : Chosen 5
        c = chose 5 e

        go : (k : InstructionKind) (a : ℕ) → IsLoad b (drop p.off s) k a → i.kind ≡ k → a ≡ 0 + c.size → Plans r (step_kind σ τ folds S m i k)
        go k a (is_load d q u dd w) j z =
            let o : step_load τ S (stays σ τ S m i) d q u (first_integer q.projections) ≡ step_taken whole S (stays σ τ S m i) p.dest t (loaded_part τ S q) = rw (← dest_is dd, ← type_is c w z ft) (load_taken τ S (stays σ τ S m i) p.dest q t whole fw) in
            let both : σ.tuples && walkable σ.edition q ≡ true = rw (on, sym (fwalks q (rw j (of_load d q u))) ∙ walked) refl in
            under (σ.tuples && walkable σ.edition q) both (rw o (f (loaded_part τ S q) (dest_below dd) (fi d q u j)))

    -- an extract of a tuple's element
    pub element_step : {r : Plan} → kind_number i.kind ≡ 11 → σ.tuples ≡ true → (x : Value) (k end : ℕ) (t : TypeId) → Operand x → end ≡ value_end s (p.off + 2) → k ≡ at32 s end → Typed t → (p.dest.0 < b.next → Plans r (step_taken true S (stays σ τ S m i) p.dest t (on_some (state_of S x) (λ xs. get_elem? xs k)))) → Done r
    unfolding step step_kind guarded
    element_step {r} e on x k end t fx fe fk ft f = go i.kind (0 + c.size) ((element_stands b (drop p.off s)).each i.kind c.size c.read) refl
      where
        c : Chosen 11
        c = chose 11 e

        go : (kind : InstructionKind) (a : ℕ) → IsElement b (drop p.off s) kind a → a ≡ 0 + c.size → Plans r (step_kind σ τ folds S m i kind)
        go kind a (is_element d y j u dd v q w) z =
            under σ.tuples on (rw (← dest_is dd, ← type_is c w z ft, ← operand_is fx v, index_is q fe fk, taken_extract S (stays σ τ S m i) p.dest t (on_some (state_of S x) (λ xs. get_elem? xs k))) (f (dest_below dd)))

    -- an extract of a struct's field
    pub field_step : {r : Plan} → kind_number i.kind ≡ 13 → σ.structs ≡ true → (x : Value) (name : NameId) (end : ℕ) (t : TypeId) → Operand x → end ≡ value_end s (p.off + 2) → name.0 ≡ at16 s end → Typed t
        → (Below b.next x → p.dest.0 < b.next → Plans r (step_taken true S (stays σ τ S m i) p.dest t (on_some (extract_index τ x name) (λ k. on_some (state_of S x) (λ xs. get_elem? xs k))))) → Done r
    unfolding step step_kind guarded
    field_step {r} e on x name end t fx fe fk ft f = go i.kind (0 + c.size) ((field_stands b (drop p.off s)).each i.kind c.size c.read) refl
      where
        c : Chosen 13
        c = chose 13 e

        go : (kind : InstructionKind) (a : ℕ) → IsField b (drop p.off s) kind a → a ≡ 0 + c.size → Plans r (step_kind σ τ folds S m i kind)
        go kind a (is_field d y j u dd v q w) z =
            let x' : x ≡ y = operand_is fx v in
            let below : Below b.next x = rw x' (value_below b s p.off 2 y h.ground.bytes h.ground.few v) in
            under σ.structs on (rw (← dest_is dd, ← type_is c w z ft, ← x', name_is {name = name} q fe fk, taken_extract S (stays σ τ S m i) p.dest t (on_some (extract_index τ x name) (λ k. on_some (state_of S x) (λ xs. get_elem? xs k)))) (f below (dest_below dd)))

    -- an insert of a tuple's element
    pub insert_element_step : {r : Plan} → kind_number i.kind ≡ 15 → σ.tuples ≡ true → (x : Value) (k end : ℕ) → Operand x → end ≡ value_end s (p.off + 2) → k ≡ at32 s end
        → ((y : Value) → p.dest.0 < b.next → ValueAt b.next s (end + 4) y → Plans r (step_insert S (stays σ τ S m i) p.dest (on_some (state_of S x) (λ xs. replaced xs k y)))) → Done r
    unfolding step step_kind guarded
    insert_element_step {r} e on x k end fx fe fk f = go i.kind (0 + c.size) ((insert_element_stands b (drop p.off s)).each i.kind c.size c.read)
      where
        c : Chosen 15
        c = chose 15 e

        go : (kind : InstructionKind) (a : ℕ) → IsInsertElement b (drop p.off s) kind a → Plans r (step_kind σ τ folds S m i kind)
        go kind a (is_insert_element d y j v u dd o q w) =
            let there : ValueAt b.next s (end + 4) v = value_behind b.next s p.off (value_end (drop p.off s) 2 + 4) (end + 4) v (omega (arith, behind_value p.off 2 s, fe)) w in
            under σ.tuples on (rw (← dest_is dd, ← operand_is fx o, index_is q fe fk) (f v (dest_below dd) there))

    -- an insert of a struct's field: where its type has the name, and where not
    module _ (e : kind_number i.kind ≡ 14) (on : σ.structs ≡ true) (name : NameId) (t : TypeId) (end : ℕ) (o : Option FoundField) (fe : end ≡ value_end s (p.off + 2)) (fk : name.0 ≡ at16 s end) (ft : Typed t) (fo : o ≡ find_field (get_elem? τ.rows t.0) name) where
      c : Chosen 14
      c = chose 14 e

      pub insert_field_step : {r : Plan} (x : Value) (z : FoundField) → Operand x → o ≡ some z → ((y : Value) → p.dest.0 < b.next → ValueAt b.next s (end + 2) y → Plans r (step_insert S (stays σ τ S m i) p.dest (on_some (state_of S x) (λ xs. replaced xs z.position y)))) → Done r
      unfolding step step_kind guarded row_of on_some field_index
      insert_field_step {r} x r' fx at f = go i.kind (0 + c.size) ((insert_field_stands b (drop p.off s)).each i.kind c.size c.read) refl
        where
          go : (kind : InstructionKind) (a : ℕ) → IsInsertField b (drop p.off s) kind a → a ≡ 0 + c.size → Plans r (step_kind σ τ folds S m i kind)
          go kind a (is_insert_field d y j v u dd l q w tw) z =
              let there : ValueAt b.next s (end + 2) v = value_behind b.next s p.off (value_end (drop p.off s) 2 + 2) (end + 2) v (omega (arith, behind_value p.off 2 s, fe)) w in
              let found : find_field (get_elem? τ.rows t.0) name ≡ some r' = sym fo ∙ at in
              under σ.structs on (rw (← dest_is dd, ← operand_is fx l, ← type_is c tw z ft, name_is {name = name} q fe fk, found) (f v (dest_below dd) there))

      pub insert_field_unknown : o ≡ none → step σ τ folds S m i ≡ stays σ τ S m i
      unfolding step step_kind guarded row_of on_some field_index step_insert
      insert_field_unknown at = go i.kind (0 + c.size) ((insert_field_stands b (drop p.off s)).each i.kind c.size c.read) refl
        where
          go : (kind : InstructionKind) (a : ℕ) → IsInsertField b (drop p.off s) kind a → a ≡ 0 + c.size → step_kind σ τ folds S m i kind ≡ stays σ τ S m i
          go kind a (is_insert_field d y j v u dd l q w tw) z =
              let found : find_field (get_elem? τ.rows t.0) name ≡ none = sym fo ∙ at in
              rw (on, ← type_is c tw z ft, name_is {name = name} q fe fk, found) refl

    -- a build that is taken apart
    module _ (fold : Bool) (folded : (d : ValueId) → build_dest i.kind ≡ some d → fold ≡ folds d) (on : fold ≡ true) where
      -- of a tuple or an array: the values of its list
      listed : {d : ValueId} {xs : List Value} {x : Piece} → Dest b (drop p.off s) 0 d → length xs ≤ b.list → build_dest i.kind ≡ some d → x ≡ step_build S (stays σ τ S m i) d (folded_parts (folds d) (some xs)) → Values b.next s 0 (p.off + 3) xs → length xs ≡ get_or s (p.off + 2) 0 → Plans Plan.Values x
      unfolding step_build folded_parts
      listed {d} {xs} dd l w e v y =
          let f : folds d ≡ true = sym (folded d w) ∙ on in
          record {
            goes = record { parts = xs; stand = v; many = y; few = omega (arith, h.ground.listed); piece = e ∙ rw (f, ← dest_is dd) refl };
            dest = λ q. dest_below dd;
          }

      pub tuple_step : kind_number i.kind ≡ 10 → Done Plan.Values
      unfolding step step_kind build_dest
      tuple_step e = go i.kind (0 + c.size) ((tuple_stands b (drop p.off s)).each i.kind c.size c.read) refl
        where
          c : Chosen 10
          c = chose 10 e

          go : (k : InstructionKind) (a : ℕ) → IsTuple b (drop p.off s) k a → i.kind ≡ k → Plans Plan.Values (step_kind σ τ folds S m i k)
          go k a (is_tuple_lem d xs dd l) q =
              let v = build_values b [] false s from i long h.line.read p.off 10 spot.fields c.kind in
              let z : list_values i.kind ≡ xs = ap list_values q in
              listed dd l (ap build_dest q) refl (rw z at v.0) (sym (ap length z) ∙ v.1 ∙ get_or-drop p.off s 2 0)

      pub array_step : kind_number i.kind ≡ 16 → Done Plan.Values
      unfolding step step_kind build_dest
      array_step e = go i.kind (0 + c.size) ((array_stands b (drop p.off s) (bit 3 (get_or (drop from s) 0 0))).each i.kind c.size c.read) refl
        where
          c : Chosen 16
          c = chose 16 e

          go : (k : InstructionKind) (a : ℕ) → IsArray b (drop p.off s) k a → i.kind ≡ k → Plans Plan.Values (step_kind σ τ folds S m i k)
          go k a (is_array_lem d xs u t dd l) q =
              let v = build_values b [] false s from i long h.line.read p.off 16 spot.fields c.kind in
              let z : list_values i.kind ≡ xs = ap list_values q in
              listed dd l (ap build_dest q) refl (rw z at v.0) (sym (ap length z) ∙ v.1 ∙ get_or-drop p.off s 2 0)

      -- of a struct
      pub struct_step : {r : Plan} → kind_number i.kind ≡ 12 → (t : TypeId) → Typed t → ((fs : List FieldInit) → p.dest.0 < b.next → Inits b.next s (p.off + 3) fs → length fs ≡ get_or s (p.off + 2) 0 → Plans r (step_build S (stays σ τ S m i) p.dest (struct_parts τ p.dest fs t))) → Done r
      unfolding step step_kind build_dest folded_parts
      struct_step {r} e t ft f = go i.kind (0 + c.size) ((struct_stands b (drop p.off s)).each i.kind c.size c.read) refl refl
        where
          c : Chosen 12
          c = chose 12 e

          go : (k : InstructionKind) (a : ℕ) → IsStruct b (drop p.off s) k a → i.kind ≡ k → a ≡ 0 + c.size → Plans r (step_kind σ τ folds S m i k)
          go k a (is_struct_lem d fs u dd tw) q z =
              let v = build_inits b [] false s from i long h.line.read q p.off spot.fields in
              let w : folds d ≡ true = sym (folded d (ap build_dest q)) ∙ on in
              rw (w, ← dest_is dd, ← type_is c tw z ft) (f fs (dest_below dd) v.0 v.1)
