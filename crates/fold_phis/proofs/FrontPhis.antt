-- The phis in front of a block.
use Prim.Native.Nat.{ℕ, suc, ◌+◌, ◌-◌, ◌≤◌, ◌<◌}
use mathlib.Core.Path.{◌≡◌, refl, ap, ◌∙◌, sym}
use mathlib.Core.List.{List, [], ◌∷◌}
use mathlib.Core.Bool.{Bool, true, false, cond, ◌||◌}
use native.Mathlib.Nat.{add-zero}
use native.Mathlib.Omega.{arith}
use borrow.Author.Tests.{eqb-true, eqb-false}
use lib.ListN.{length, get_or, drop}
use lib.Dec.{eqb}
use Rattle.std.specs.List.{list_any, prefix_len, range_with_len}
use Rattle.std.proofs.lemmas.List.FromFn.{length-range_with_len}
use Rattle.std.proofs.lemmas.List.Sums.{prefix_len-le-length}
use Rattle.bytes_wire.specs.Parse.{ok}
use Rattle.bytes_wire.specs.Number.{at16}
use Rattle.mir.specs.declared.ValueId.{ValueId}
use Rattle.mir.specs.declared.TypeId.{TypeId}
use Rattle.bytes_wire.proofs.Inv.{both, image, and_inv, map_inv}
use Rattle.mir.specs.Syntax.{Source, Instruction, InstructionKind}
use Rattle.mir.specs.Syntax.{Assign, UnaryOp, BinaryOp, Call, Cast, Load, Store, Debug, Nop, Phi}
use Rattle.mir.specs.Syntax.{MakeTuple, ExtractTupleElement, MakeStruct, ExtractStructField, InsertField, InsertTuple, MakeFixedArray, AssertEq, HeapAllocCells}
use Rattle.mir.specs.Reads.{kind_number}
use Rattle.bytes_field.specs.Decode.{defined_of, type_id_of, list_of, source_of, phi_of}
use Rattle.bytes_field.specs.declared.Bounds.{Bounds}
use Rattle.bytes_operands.specs.Fields.{fields_place}
use Rattle.bytes_operands.proofs.Instruction.{instruction_fields}
use Rattle.bytes_index.specs.Table.{place_in, end_in, kind_in}
use Rattle.bytes_index.specs.declared.code.Code.{Code}
use Rattle.bytes_index.specs.declared.slots.Slots.{Slots}
use Rattle.bytes_index.specs.Code.{InstructionIn, InstructionsIn}
use Rattle.fold.specs.declared.Settings.{Settings}
use Rattle.mir.specs.Lookup.{Types, value_row, shape, is_tuple, is_struct, any}
use Rattle.fold.specs.Tables.{ShapesAt}
use Rattle.mir.specs.Phis.{behind_phis}
use Rattle.fold.specs.Fold.{aggregate_phi, skipped}
use Rattle.fold_climb.proofs.Found.{dest_at}
use Rattle.fold_scan.specs.Noted.{dest_in}
use Rattle.fold_phis.specs.Skipped.{phi_in, tells_phi}

-- a phi's dest is its first field
data PhiAt (next : ℕ) (t : List ℕ) (i : InstructionKind) : Type 0 where
  phi_at : (d : ValueId) (y : TypeId) (ss : List Source) → i ≡ Phi d y ss → d.0 ≡ at16 t 0 → d.0 < next → PhiAt next t i

phi_dest : (b : Bounds) (seen : List Bool) (t : List ℕ) (i : InstructionKind) (n : ℕ) → phi_of b seen t ≡ ok i n → PhiAt b.next t i
unfolding phi_of
phi_dest b seen t i n e =
    elim (and_inv t (defined_of b.next seen t) _ e) [
      | both d m k p q r ↦
          elim (and_inv (drop m t) (type_id_of b.types (drop m t)) _ q) [
            | both y m' k' p' q' r' ↦
                elim (map_inv (λ ss. Phi d y ss) (list_of b.list (source_of b) (drop m' (drop m t))) q') [
                  | image ss f g ↦ let h = dest_at b.next seen t p in phi_at d y ss g h.0 h.1
                ]
          ]
    ]

-- no phi
no_phi : (τ : Types) (i : InstructionKind) → (kind_number i ≡ 9 → ⊥) → false ≡ aggregate_phi τ i
unfolding aggregate_phi
no_phi τ (Assign d x t) h = refl
no_phi τ (UnaryOp op d x) h = refl
no_phi τ (BinaryOp op d x y) h = refl
no_phi τ (Call ds f xs ps rs) h = refl
no_phi τ (Cast d x t u) h = refl
no_phi τ (Load d p t) h = refl
no_phi τ (Store p x t) h = refl
no_phi τ (Debug n xs) h = refl
no_phi τ Nop h = refl
no_phi τ (Phi d t ss) h = absurd (h refl)
no_phi τ (MakeTuple d xs) h = refl
no_phi τ (ExtractTupleElement d x k t) h = refl
no_phi τ (MakeStruct d fs t) h = refl
no_phi τ (ExtractStructField d x n t) h = refl
no_phi τ (InsertField d x n y t) h = refl
no_phi τ (InsertTuple d x k y t) h = refl
no_phi τ (MakeFixedArray d xs t c) h = refl
no_phi τ (AssertEq x y) h = refl
no_phi τ (HeapAllocCells d x) h = refl

-- the instructions behind the first
later : (b : Bounds) (s facts : List ℕ) (i : Instruction) (is : List Instruction) (first : ℕ) → InstructionsIn b s facts first (i ∷ is) → InstructionsIn b s facts (first + 1) is
later b s facts i is first at k h = let e : first + suc k ≡ first + 1 + k = omega arith in rw e at (at (suc k) (omega arith))

-- what the table and the shapes say of an instruction
module _ (b : Bounds) (code : Code) (shapes : List ℕ) (σ : Settings) (τ : Types) (eligible : List Bool) (f : ShapesAt σ τ shapes eligible) (m : length τ.recorded ≡ b.next) where
  tells : (slot : ℕ) (i : Instruction) → InstructionIn b code.bytes.now code.facts.now slot i → tells_phi code shapes slot ≡ aggregate_phi τ i.kind
  unfolding aggregate_phi is_tuple is_struct
  tells slot i at = go (phi_in code.facts.now slot) refl
    where
      go : (p : Bool) → phi_in code.facts.now slot ≡ p → tells_phi code shapes slot ≡ aggregate_phi τ i.kind
      go false p = rw p (no_phi τ i.kind (λ z. eqb-false (kind_in code.facts.now slot) 9 p (at.kind ∙ z)))
      go true p =
          let t = drop (place_in code.facts.now slot) code.bytes.now in
          let w = instruction_fields b [] false t i (end_in code.facts.now slot - place_in code.facts.now slot) at.read in
          let nine : get_or t 1 0 ≡ 9 = sym w.numbered ∙ sym at.kind ∙ eqb-true (kind_in code.facts.now slot) 9 p in
          elim (phi_dest b [] (drop (fields_place t) t) i.kind w.size (rw nine at w.read)) [
            | phi_at v y ss g a l ↦
                let h : get_or shapes (dest_in code.bytes.now code.facts.now slot) 0 ≡ shape (value_row τ v) = ap (λ c. get_or shapes c 0) (sym a) ∙ f.shaped v.0 (rw m l) in
                rw (p, g, h) refl
          ]

  pub any_phi : (first : ℕ) (is : List Instruction) → InstructionsIn b code.bytes.now code.facts.now first is → list_any (λ slot. tells_phi code shapes slot) (range_with_len first (length is)) ≡ skipped τ is
  unfolding skipped any
  any_phi first [] at = refl
  any_phi first (i ∷ is) at =
      let here : InstructionIn b code.bytes.now code.facts.now first i = rw add-zero at (at 0 (omega arith)) in
      rw (tells first i here) (ap (λ (x : Bool). aggregate_phi τ i.kind || x) (any_phi (first + 1) is (later b _ _ i is first at)))

-- the phis in front
module _ (b : Bounds) (s facts : List ℕ) where
  pub front_phis : (first : ℕ) (is : List Instruction) → InstructionsIn b s facts first is → behind_phis is ≡ drop (prefix_len (phi_in facts) (range_with_len first (length is))) is
  unfolding behind_phis
  front_phis first [] at = refl
  front_phis first (i ∷ is) at =
      let here : InstructionIn b s facts first i = rw add-zero at (at 0 (omega arith)) in
      rw here.kind (go (front_phis (first + 1) is (later b _ _ i is first at)) (eqb (kind_number i.kind) 9))
    where
      go : behind_phis is ≡ drop (prefix_len (phi_in facts) (range_with_len (first + 1) (length is))) is → (p : Bool) → cond p (behind_phis is) (i ∷ is) ≡ drop (cond p (1 + prefix_len (phi_in facts) (range_with_len (first + 1) (length is))) 0) (i ∷ is)
      go ih true =
          let n = prefix_len (phi_in facts) (range_with_len (first + 1) (length is)) in
          let e : 1 + n ≡ suc n = omega arith in
          rw e ih
      go ih false = refl

-- no phis stand in front of what is behind them
behind_again : (is : List Instruction) → behind_phis (behind_phis is) ≡ behind_phis is
unfolding behind_phis
behind_again [] = refl
behind_again (i ∷ is) = go (eqb (kind_number i.kind) 9) refl (behind_again is)
  where
    go : (p : Bool) → eqb (kind_number i.kind) 9 ≡ p → behind_phis (behind_phis is) ≡ behind_phis is
        → behind_phis (cond p (behind_phis is) (i ∷ is)) ≡ cond p (behind_phis is) (i ∷ is)
    go true e r = r
    go false e r = rw e refl

-- the instructions before k are phis
pub record Counting (facts : List ℕ) (slots : Slots) (k : ℕ) : Type 0 where
  pub low : k ≤ slots.count
  pub small : slots.first + slots.count ≤ 288
  pub left :
      (b : Bounds) (s : List ℕ) (is : List Instruction)
      → InstructionsIn b s facts slots.first is
      → length is ≡ slots.count
      → behind_phis is ≡ behind_phis (drop k is)

-- those that are counted
pub counting : (facts : List ℕ) (slots : Slots) {k : ℕ} → k ≡ prefix_len (phi_in facts) (range_with_len slots.first slots.count) → Counting facts slots k
counting facts slots {k} e =
    record {
      low = omega (arith, e, prefix_len-le-length (phi_in facts) (range_with_len slots.first slots.count), length-range_with_len slots.first slots.count);
      small = slots.low;
      left = λ b s is at l.
          let z : behind_phis is ≡ drop k is = rw (e, ← l) (front_phis b s facts slots.first is at) in
          sym (ap (λ x. behind_phis x) (sym z) ∙ behind_again is);
    }
