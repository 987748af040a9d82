-- A Store: where its value stands, and what it changes.
use Prim.Native.Nat.{ℕ, ◌+◌, ◌≤◌, ◌<◌}
use mathlib.Core.Path.{◌≡◌, refl, ap, ◌∙◌, sym}
use mathlib.Core.List.{List, [], ◌∷◌}
use mathlib.Core.Bool.{Bool, true, false, cond}
use mathlib.Core.Option.{Option, none, some}
use native.Mathlib.Omega.{arith}
use borrow.Author.Tests.{ltb-true, ltb-false}
use lib.ListN.{length, get_or, get_elem?, drop, set}
use lib.Seq.{drop-drop}
use lib.Dec.{ltb}
use Rattle.bytes_wire.specs.Parse.{ok}
use Rattle.bytes_wire.specs.Value.{value_of}
use Rattle.mir.specs.declared.TypeId.{TypeId}
use Rattle.mir.specs.declared.Value.{Value}
use Rattle.mir.specs.declared.ValueId.{ValueId}
use Rattle.mir.specs.declared.Projection.{Projection}
use Rattle.mir.specs.Syntax.{Place, Instruction, InstructionKind}
use Rattle.mir.specs.Reads.{kind_number}
use Rattle.bytes_field.specs.Decode.{instruction_of, bit}
use Rattle.bytes_field.specs.declared.Bounds.{Bounds}
use Rattle.bytes_operands.specs.Fields.{operand_fields, fields_place, projection_end, after}
use Rattle.bytes_operands.proofs.EachKind.{At, at}
use Rattle.bytes_operands.proofs.Places.{Listed, empty, ◌&◌}
use Rattle.bytes_operands.proofs.Instruction.{instruction_fields, instruction_stands}
use Rattle.mir.specs.Lookup.{is_some, Types, on_some}
use Rattle.fold.specs.Family.{Marks}
use Rattle.rewrite.specs.State.{AggStates, insert_state, replaced, step_index, store_part, store_last}
use Rattle.rewrite_parts.specs.Rows.{ValueAt, stands, Rep, There}
use Rattle.std.specs.Prelude.{Some, None, unwrap_or, is_some as is_answered, Option as Answered}
use Rattle.rewrite_parts.proofs.Tables.{replaced_set, replaced_past}
use Rattle.rewrite_chains.specs.Chained.{states_after, Forwards}
use Rattle.table.proofs.Elements.{some_at, none_at}

-- an instruction's own fields begin soon
at_most : (b : Bool) (n : ℕ) → cond b n 0 ≤ n
at_most true n = omega arith
at_most false n = omega arith

pub fields_near : (s : List ℕ) → fields_place s ≤ 26
fields_near s = omega (arith, at_most (bit 0 (get_or s 0 0)) 8, at_most (bit 1 (get_or s 0 0)) 12, at_most (bit 2 (get_or s 0 0)) 4)

-- the first of a list
first_listed : {A : Type 0} {Q : ℕ → A → Type 0} {end : ℕ → ℕ} {p : ℕ} {xs : List A} (x : A) → Listed Q end p xs → xs ≡ x ∷ [] → Q p x
first_listed {xs} x empty e = absurd (let z : ◌≡◌ {A = ℕ} 0 1 = ap length e in omega arith)
first_listed {Q} {p} x (◌&◌ {x = y} {xs = ys} q qs) e = let z : y ≡ x = cc in rw z at q

-- the value of the Store at a place of s: t is the instruction, u its own fields
pub stored_value : (b : Bounds) (s t u : List ℕ) (from far : ℕ) (i : Instruction) (n : ℕ) (p : Place) (x : Value) (y : TypeId) → t ≡ drop from s → u ≡ drop (fields_place t) t → far ≡ after (projection_end u) (get_or u 2 0) 3 → instruction_of b [] false (drop from s) ≡ ok i n → i.kind ≡ InstructionKind.Store p x y → ValueAt b.next s (from + fields_place t + far) x
stored_value b s t u from far i n p x y et eu ea e k =
    let e' : instruction_of b [] false t ≡ ok i n = ap (instruction_of b [] false) et ∙ e in
    let six : get_or t 1 0 ≡ 6 = sym (instruction_fields b [] false t i n e').numbered ∙ ap kind_number k in
    let w = rw (sym eu, six) at (instruction_stands b [] false t i n e') in
    let here : At (value_of b.next) u (after (projection_end u) (get_or u 2 0) 3) x = first_listed x w.operands (ap operand_fields k) in
    elim here [
      | at m h ↦
          let there : drop (after (projection_end u) (get_or u 2 0) 3) u ≡ drop (from + fields_place t + far) s =
          ap (λ a. drop a u) (sym ea) ∙ ap (drop far) (eu ∙ ap (drop (fields_place t)) et) ∙ ap (drop far) (drop-drop (fields_place t) from s) ∙ drop-drop far (from + fields_place t) s in
          let h' : value_of b.next (drop (from + fields_place t + far) s) ≡ ok x m = sym (ap (value_of b.next) there) ∙ h in
          stands m h'
    ]

-- nothing is forwarded
pub forwards_none : {next : ℕ} {s : List ℕ} {tracked : Marks} {rows : List ℕ} {used : ℕ} {S : AggStates} {o : Option AggStates} → o ≡ none → Rep next s tracked rows used S → Forwards next s S o tracked rows used None
unfolding states_after is_some
forwards_none e r = record { is_told = rw e; rep = rw e r }

-- the parts where there is part k
data Has (o : Option (List Value)) (k : ℕ) : Type 0 where
  has : (xs : List Value) → o ≡ some xs → k < length xs → Has o k

part_has : (o : Option (List Value)) (k : ℕ) {x : Value} → on_some o (λ xs. get_elem? xs k) ≡ some x → Has o k
unfolding on_some
part_has none k e = absurd (let z : ◌≡◌ {A = ℕ} 0 1 = cc in omega arith)
part_has (some xs) k {x} e = go (ltb k (length xs)) refl
  where
    go : (b : Bool) → ltb k (length xs) ≡ b → Has (some xs) k
    go true z = has xs refl (ltb-true k (length xs) z)
    go false z = absurd (let w : none ≡ some x = sym (none_at xs k (ltb-false k (length xs) z)) ∙ e in let u : ◌≡◌ {A = ℕ} 0 1 = cc in omega arith)

module _ (S : AggStates) (v : ValueId) (k : ℕ) (y : Value) where
  -- no such part
  pub store_missing : on_some (S v.0) (λ xs. get_elem? xs k) ≡ none → store_part S v k y ≡ none
  unfolding store_part on_some
  store_missing e = go (S v.0) refl
    where
      go : (o : Option (List Value)) → S v.0 ≡ o → store_part S v k y ≡ none
      go none g = rw g
      go (some xs) g = here (ltb k (length xs)) refl
        where
          here : (b : Bool) → ltb k (length xs) ≡ b → store_part S v k y ≡ none
          here true z = absurd (let w : none ≡ some (get_or xs k Value.Error) = sym (rw g at e) ∙ some_at xs k Value.Error (ltb-true k (length xs) z) in let u : ◌≡◌ {A = ℕ} 0 1 = cc in omega arith)
          here false z = let w : replaced xs k y ≡ none = replaced_past xs k y (ltb-false k (length xs) z) in rw (g, w)

  -- the part
  pub store_replaced : {next : ℕ} {s : List ℕ} {tracked : Marks} {rows : List ℕ} {place more : ℕ} {from : List ℕ} → There next from (on_some (S v.0) (λ xs. get_elem? xs k)) place → ((xs ys : List Value) → S v.0 ≡ some xs → replaced xs k y ≡ some ys → Rep next s tracked rows more (insert_state S v ys)) → {used : ℕ} → Forwards next s S (store_part S v k y) tracked rows used (Some more)
  unfolding store_part on_some states_after is_some
  store_replaced {next} {s} t w =
      elim (part_has (S v.0) k t.is) [
        | has xs g l ↦
            let z : replaced xs k y ≡ some (set xs k y) = replaced_set xs k y l in
            let r : Rep next s _ _ _ (insert_state S v (set xs k y)) = w xs (set xs k y) g z in
            let o : store_part S v k y ≡ some (insert_state S v (set xs k y)) = rw (g, z) in
            record { is_told = rw o; rep = rw o r }
      ]

-- the part that a projection names
pub last_none : (τ : Types) (S : AggStates) (v : ValueId) (q : Projection) (y : Value) → none ≡ step_index τ v q → store_last τ S (Value.Operand v) q y ≡ none
unfolding store_last on_some
last_none τ S v q y e = rw (← e) refl

pub last_some : (τ : Types) (S : AggStates) (v : ValueId) (q : Projection) (y : Value) (k : ℕ) → some k ≡ step_index τ v q → store_last τ S (Value.Operand v) q y ≡ store_part S v k y
unfolding store_last on_some
last_some τ S v q y k e = rw (← e) refl

-- both facts of a Store's answer
pub both_facts : {next : ℕ} {s : List ℕ} {tracked : Marks} {rows : List ℕ} {used : ℕ} {S : AggStates} {o : Option AggStates} {r : Answered ℕ} → Forwards next s S o tracked rows used r → (is_answered r ≡ is_some o) × Rep next s tracked rows (unwrap_or r used) (states_after S o)
both_facts f = (f.is_told, f.rep)
