-- Instructions, terminators, blocks and the routine.
use Prim.Native.Nat.{ℕ, zero, suc, ◌-◌, ◌≤◌, ◌<◌}
use mathlib.Core.Path.{◌≡◌, refl, ap, ◌∙◌, sym}
use mathlib.Core.List.{List, [], map}
use mathlib.Core.Bool.{Bool, true, false, ◌&&◌}
use native.Mathlib.Omega.{arith}
use lib.ListN.{length, get_or, drop, get_or-eq_default}
use Rattle.bytes_wire.specs.Parse.{Parse, ok, bad, later}
use Rattle.bytes_wire.specs.declared.Cause.{Cause}
use Rattle.mir.specs.declared.ValueId.{ValueId}
use Rattle.bytes_wire.proofs.Inv.{no_ok, behind, image, later_inv, map_inv, tagged_inv}
use Rattle.mir.specs.Syntax.{InstructionKind, Instruction, Terminator}
use Rattle.bytes_field.specs.Decode.{kinds, bit, instruction_of, terminator_of, terminators, jump_of, if_of, branch_of, return_of, block_id_of, defineds_of}
use Rattle.bytes_field.specs.declared.Bounds.{Bounds}
use Rattle.bytes_operands.specs.Fields.{fields_place}
use Rattle.bytes_operands.proofs.Instruction.{instruction_fields}
use Rattle.bytes_index.specs.declared.code.Code.{Code}
use Rattle.bytes_index.specs.declared.code.Typing.{Typing}
use Rattle.bytes_index.specs.Table.{place_in, end_in, kind_in, recorded_in}
use Rattle.fold.specs.Tables.{CodeGround, TypingGround}
use Rattle.bytes_index.specs.Code.{no_block, TerminatorIn, LastSlot}
use Rattle.mir.specs.Routine.{Routine}
use Rattle.mir.specs.Lookup.{is_some, Types, recorded_type, types_in}
use Rattle.shelf.specs.Reads.{with_debug}
use Rattle.shelf_marks.specs.Tests.{SlotIn, OfBlock, each_kind}
use Rattle.shelf_reason1.specs.Told.{OfKind, OfEndKind, EndAgrees}
use Rattle.shelf.specs.Lists.{every}
use Rattle.shelf.specs.Agrees.{agrees, end_agrees, counted_agrees, block_agrees}
use Rattle.shelf.specs.Reason.{types_agree}
use Rattle.shelf_list.specs.Lists.{IdsAt}
use Rattle.shelf_list.proofs.Standing.{dests_field}

-- the fields of an instruction of kind j
pub at_kind : (b : Bounds) (seen : List Bool) (c : Bool) (τ : Types) (t : List ℕ) (i : InstructionKind) (n : ℕ) (j : ℕ) → {k : ℕ} {r : Bool} → k ≡ j → get_or (map (λ f. f t) (kinds b seen c)) k (bad Cause.Undefined 0) ≡ ok i n → (get_or (map (λ f. f t) (kinds b seen c)) j (bad Cause.Undefined 0) ≡ ok i n → r ≡ agrees τ i) → r ≡ agrees τ i
at_kind b seen c τ t i n j e q f = f (rw e at q)

-- of a Nop nothing is asked
pub nop_agrees : (τ : Types) {i : InstructionKind} {n : ℕ} → ok InstructionKind.Nop 0 ≡ ok i n → true ≡ agrees τ i
unfolding agrees
nop_agrees τ {i} e = let z : i ≡ InstructionKind.Nop = cc in rw z refl

-- the fields of an instruction and of a terminator, where the recorded types are the routine's own
module _ (typing : Typing) (code : Code) (e : typing.code ≡ code) (f : typing.recorded.now ≡ recorded_in code.facts.now) (τ : Types) where
  own_ground : CodeGround code τ → TypingGround typing τ
  own_ground g = rw (e, f) g

  pub kind_typed : (t : List ℕ) (j : ℕ) {r : Bool} → OfKind typing t j r → (seen : List Bool) (c : Bool) (i : InstructionKind) (n : ℕ) → CodeGround code τ → get_or (map (λ f. f t) (kinds code.bounds seen c)) j (bad Cause.Undefined 0) ≡ ok i n → r ≡ agrees τ i
  kind_typed t j h seen c i n g q =
      h τ seen c i n (own_ground g) (ap (λ (k : Code). get_or (map (λ (f : List ℕ → Parse InstructionKind). f t) (kinds k.bounds seen c)) j (bad Cause.Undefined 0)) e ∙ q)

  pub end_typed : (t : List ℕ) (j : ℕ) {r : Bool} → OfEndKind typing t j r → (i : Terminator) (n : ℕ) → CodeGround code τ → get_or (map (λ f. f t) (terminators code.bounds)) j (bad Cause.Undefined 0) ≡ ok i n → r ≡ end_agrees τ i
  end_typed t j h i n g q = h τ i n (own_ground g) (ap (λ (k : Code). get_or (map (λ (f : List ℕ → Parse Terminator). f t) (terminators k.bounds)) j (bad Cause.Undefined 0)) e ∙ q)

-- an instruction, by its kind and its own fields
pub slot_told : (code : Code) (slot : ℕ) {u t : List ℕ} {j : ℕ} → u ≡ drop (place_in code.facts.now slot) code.bytes.now → t ≡ drop (fields_place u) u → j ≡ kind_in code.facts.now slot → (i : Instruction) → SlotIn code slot i → {A : Type 0} → ((c : Bool) (m : ℕ) → get_or (map (λ f. f t) (kinds code.bounds [] c)) j (bad Cause.Undefined 0) ≡ ok i.kind m → A) → A
slot_told code slot {u} {t} {j} eu p ej i a f =
    let b = code.bounds in
    let h = instruction_fields b [] false u i _ (ap (λ q. instruction_of b [] false q) eu ∙ a.read) in
    let c = bit 3 (get_or u 0 0) in
    f c h.size
    (ap (λ z. get_or (map (λ (f : List ℕ → Parse InstructionKind). f z) (kinds b [] c)) j (bad Cause.Undefined 0)) p
    ∙ ap (λ z. get_or (map (λ (f : List ℕ → Parse InstructionKind). f (drop (fields_place u) u)) (kinds b [] c)) z (bad Cause.Undefined 0)) (ej ∙ a.kind ∙ h.numbered)
    ∙ h.read)

pub end_at : (code : Code) (slot : ℕ) {u : List ℕ} → u ≡ drop (place_in code.facts.now slot) code.bytes.now → (x : Terminator)
    → TerminatorIn code.bounds code.bytes.now code.facts.now slot x → terminator_of code.bounds u ≡ ok x (end_in code.facts.now slot - place_in code.facts.now slot)
end_at code slot eu x a = ap (λ q. terminator_of code.bounds q) eu ∙ a.read

-- a terminator, by its kind and its own fields
module _ (b : Bounds) (u t : List ℕ) (i : Terminator) (n : ℕ) (e : terminator_of b u ≡ ok i n) (p : t ≡ drop 1 u) where
  chosen : (k : ℕ) → get_or u 0 0 ≡ k → get_or (map (λ (f : List ℕ → Parse Terminator). later 1 (f t)) (terminators b)) k (bad Cause.Undefined 0) ≡ ok i n
  unfolding terminator_of
  chosen k z =
      ap (λ w. get_or (map (λ (f : List ℕ → Parse Terminator). later 1 (f w)) (terminators b)) k (bad Cause.Undefined 0)) p
      ∙ (rw z at (tagged_inv (terminators b) u e).1)

  pub end_told : {A : Type 0} (k : ℕ) → k ≡ get_or u 0 0 → k < 5 → ((m : ℕ) → get_or (map (λ f. f t) (terminators b)) k (bad Cause.Undefined 0) ≡ ok i m → A) → A
  end_told zero z h f = elim (later_inv 1 (jump_of b t) (chosen 0 (sym z))) [ behind m q l ↦ f m q ]
  end_told (suc zero) z h f = elim (later_inv 1 (if_of b t) (chosen 1 (sym z))) [ behind m q l ↦ f m q ]
  end_told (suc (suc zero)) z h f = elim (later_inv 1 (branch_of b t) (chosen 2 (sym z))) [ behind m q l ↦ f m q ]
  end_told (suc (suc (suc zero))) z h f = elim (later_inv 1 (return_of b t) (chosen 3 (sym z))) [ behind m q l ↦ f m q ]
  end_told (suc (suc (suc (suc zero)))) z h f = elim (later_inv 1 (ok Terminator.Unreachable 0) (chosen 4 (sym z))) [ behind m q l ↦ f m q ]
  end_told (suc (suc (suc (suc (suc k))))) z h f = absurd (omega arith)

  -- past the last kind there is none
  pub end_known : {k : ℕ} → k ≡ get_or u 0 0 → 4 < k → {A : Type 0} → A
  end_known {k} z h =
      let over : 5 ≤ k = omega arith in
      absurd (no_ok (sym (get_or-eq_default (map (λ (f : List ℕ → Parse Terminator). later 1 (f t)) (terminators b)) (bad Cause.Undefined 0) over) ∙ chosen k (sym z)))

-- a terminator of kind j
pub at_end : (b : Bounds) (τ : Types) (t : List ℕ) (i : Terminator) (n : ℕ) (j : ℕ) → {k : ℕ} {r : Bool} → k ≡ j → get_or (map (λ f. f t) (terminators b)) k (bad Cause.Undefined 0) ≡ ok i n → (get_or (map (λ f. f t) (terminators b)) j (bad Cause.Undefined 0) ≡ ok i n → r ≡ end_agrees τ i) → r ≡ end_agrees τ i
at_end b τ t i n j e q f = f (rw e at q)

-- of a Jump and of an Unreachable nothing is asked
pub jump_agrees : (b : Bounds) (t : List ℕ) (τ : Types) {i : Terminator} {m : ℕ} → jump_of b t ≡ ok i m → true ≡ end_agrees τ i
unfolding jump_of end_agrees
jump_agrees b t τ q = elim (map_inv Terminator.Jump (block_id_of b.blocks t) q) [ image x f g ↦ rw g refl ]

pub over_agrees : (τ : Types) {i : Terminator} {m : ℕ} → ok Terminator.Unreachable 0 ≡ ok i m → true ≡ end_agrees τ i
unfolding end_agrees
over_agrees τ {i} q = let z : i ≡ Terminator.Unreachable = cc in rw z refl

-- a block, its terminator last
module _ (code : Code) (k : ℕ) where
  pub block_fail : OfBlock code k (λ τ x. each_kind (agrees τ) x.instructions) false → OfBlock code k (block_agrees with_debug) false
  unfolding block_agrees counted_agrees
  block_fail e τ ks c h = ap (λ z. z && end_agrees τ (get_or ks k no_block).terminator) (e τ ks c h)

  pub block_end : {last : ℕ} {r : Bool} → LastSlot code.facts.now k last → OfBlock code k (λ τ x. each_kind (agrees τ) x.instructions) true → EndAgrees code last r → OfBlock code k (block_agrees with_debug) r
  unfolding block_agrees counted_agrees
  block_end {last} el e f τ ks c h =
      let x = (get_or ks k no_block).terminator in
      let a : TerminatorIn code.bounds code.bytes.now code.facts.now last x = rw (el code.bounds code.bytes.now ks c.code h) (c.code.each k h).terminator in
      f τ x c.ground a ∙ ap (λ z. z && end_agrees τ x) (e τ ks c h)

-- the routine
pub routine_told : (debug : Bool) (x : Routine) {r a c : Bool} → r ≡ (a && c) → a ≡ every (λ v. is_some (recorded_type (types_in x) v)) x.parameters → c ≡ every (block_agrees debug (types_in x)) x.blocks → r ≡ types_agree debug x
unfolding types_agree
routine_told debug x {r} {a} {c} p q s = p ∙ ap (λ z. z && c) q ∙ ap (λ z. every (λ v. is_some (recorded_type (types_in x) v)) x.parameters && z) s

pub parameters_told : (b : Bounds) (t : List ℕ) (seen : List Bool) (ds : List ValueId) (n : ℕ) → defineds_of b.list b.next seen t ≡ ok ds n → IdsAt b.next t 1 ds × (length ds ≡ get_or t 0 0)
parameters_told b t seen ds n e = ((dests_field b t seen).each ds n e).0
