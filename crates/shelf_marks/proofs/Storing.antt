-- Stores: their bases, their depth, and the values that instructions take as parts.
use Prim.Native.Nat.{ℕ, ◌<◌}
use mathlib.Core.Path.{◌≡◌, refl, ap, ◌∙◌, sym}
use mathlib.Core.List.{List, [], ◌∷◌}
use mathlib.Core.Bool.{Bool, true, false, cond, not, ◌&&◌, ◌||◌, and-false}
use mathlib.Core.Option.{Option, none, some}
use mathlib.Core.Logic.{◌⊎◌, inl, inr}
use native.Mathlib.Omega.{arith}
use borrow.Author.Tests.{eq-eqb, ne_eqb, not-true}
use lib.ListN.{length, get_or, get_elem?, drop}
use lib.Dec.{eqb, eqb→eq}
use Rattle.bytes_wire.specs.Parse.{ok}
use Rattle.mir.specs.declared.kind.Kind.{Kind}
use Rattle.mir.specs.Kind.{number_of_kind}
use Rattle.mir.specs.declared.Value.{Value}
use Rattle.mir.specs.declared.ValueId.{ValueId}
use Rattle.mir.specs.declared.Projection.{Projection}
use Rattle.mir.specs.Syntax.{Instruction, InstructionKind, Block}
use Rattle.mir.specs.Syntax.{Assign, UnaryOp, BinaryOp, Call, Cast, Load, Store, Debug, Nop, Phi}
use Rattle.mir.specs.Syntax.{MakeTuple, ExtractTupleElement, MakeStruct, ExtractStructField, InsertField, InsertTuple, MakeFixedArray, AssertEq, HeapAllocCells}
use Rattle.mir.specs.Reads.{reads, store_base, kind_number, is_phi}
use Rattle.bytes_field.specs.Decode.{instruction_of}
use Rattle.bytes_index.specs.declared.code.Code.{Code}
use Rattle.bytes_index.specs.Table.{place_in, kind_in, read_in}
use Rattle.bytes_operands.specs.Fields.{operand_fields, place_steps}
use Rattle.mir.specs.Option.{as_option}
use Rattle.std.specs.Prelude.{Some, None, Option as Answered}
use Rattle.std.specs.Option.{is_some as has_some}
use Rattle.mir.specs.Phis.{behind_phis}
use Rattle.shelf.specs.Lists.{every, among, clear}
use Rattle.shelf.specs.Reads.{parts_taken, is_deep, shallow}
use Rattle.shelf_marks.specs.Tests.{SlotIn, OfSlot, found_reads, parts_clear, shallow_in, each_kind, each_block}
use Rattle.shelf_marks.proofs.Scanning.{every_behind, every_same}

abbrev no_value : ValueId
no_value = record { 0 = 0 }

-- a Store, and no other kind, stores into the first value that it reads
base_of : (i : InstructionKind) → (store_base i ≡ cond (eqb (kind_number i) 6) (some (get_or (reads i) 0 no_value)) none) × (0 < length (cond (eqb (kind_number i) 6) (reads i) (no_value ∷ [])))
base_of (Assign d v t) = (refl, omega arith)
base_of (UnaryOp op d v) = (refl, omega arith)
base_of (BinaryOp op d v w) = (refl, omega arith)
base_of (Call ds c vs ps rs) = (refl, omega arith)
base_of (Cast d v t w) = (refl, omega arith)
base_of (Load d p t) = (refl, omega arith)
base_of (Store p v t) = (refl, omega arith)
base_of (Debug m vs) = (refl, omega arith)
base_of Nop = (refl, omega arith)
base_of (Phi d t ss) = (refl, omega arith)
base_of (MakeTuple d vs) = (refl, omega arith)
base_of (ExtractTupleElement d v m t) = (refl, omega arith)
base_of (MakeStruct d fs t) = (refl, omega arith)
base_of (ExtractStructField d v m t) = (refl, omega arith)
base_of (InsertField d v m w t) = (refl, omega arith)
base_of (InsertTuple d v m w t) = (refl, omega arith)
base_of (MakeFixedArray d vs t c) = (refl, omega arith)
base_of (AssertEq v w) = (refl, omega arith)
base_of (HeapAllocCells d v) = (refl, omega arith)

pub base_none : (i : InstructionKind) → (kind_number i ≡ 6 → ⊥) → store_base i ≡ none
base_none i f = (base_of i).0 ∙ ap (λ q. cond q (some (get_or (reads i) 0 no_value)) none) (ne_eqb (kind_number i) 6 f)

pub base_read : (code : Code) (slot : ℕ) (i : Instruction) {v : ℕ} → SlotIn code slot i → kind_in code.facts.now slot ≡ 6 → v ≡ read_in code.facts.now slot 0 → store_base i.kind ≡ some (record { 0 = v })
base_read code slot i {v} a k e =
    let z : eqb (kind_number i.kind) 6 ≡ true = eq-eqb (kind_number i.kind) 6 (sym a.kind ∙ k) in
    let h : 0 < length (reads i.kind) = rw z at (base_of i.kind).1 in
    let y : (get_or (reads i.kind) 0 no_value).0 ≡ v = sym (e ∙ a.reads_in.each 0 h) in
    (base_of i.kind).0 ∙ ap (λ q. cond q (some (get_or (reads i.kind) 0 no_value)) none) z ∙ ap (λ q. some (record { 0 = q })) y

-- a phi is no Store
pub no_phi : (i : InstructionKind) → is_phi i ≡ true → store_base i ≡ none
no_phi i e = base_none i (λ z. omega (arith, eqb→eq (kind_number i) 9 (rw e tt)))

-- only a Store can be deep, and it goes by its base
abbrev on_base : Option ValueId → (ValueId → Bool) → Bool
on_base none f = true
on_base (some v) f = f v

shallow_by : (dropped : ℕ → Bool) (i : InstructionKind) → shallow dropped i ≡ on_base (store_base i) (λ v. not (is_deep (place_steps i) && dropped v.0))
unfolding shallow
shallow_by dropped (Assign d v t) = refl
shallow_by dropped (UnaryOp op d v) = refl
shallow_by dropped (BinaryOp op d v w) = refl
shallow_by dropped (Call ds c vs ps rs) = refl
shallow_by dropped (Cast d v t w) = refl
shallow_by dropped (Load d p t) = refl
shallow_by dropped (Store p v t) = refl
shallow_by dropped (Debug m vs) = refl
shallow_by dropped Nop = refl
shallow_by dropped (Phi d t ss) = refl
shallow_by dropped (MakeTuple d vs) = refl
shallow_by dropped (ExtractTupleElement d v m t) = refl
shallow_by dropped (MakeStruct d fs t) = refl
shallow_by dropped (ExtractStructField d v m t) = refl
shallow_by dropped (InsertField d v m w t) = refl
shallow_by dropped (InsertTuple d v m w t) = refl
shallow_by dropped (MakeFixedArray d vs t c) = refl
shallow_by dropped (AssertEq v w) = refl
shallow_by dropped (HeapAllocCells d v) = refl

shallow_phi : (dropped : ℕ → Bool) (i : InstructionKind) → is_phi i ≡ true → shallow dropped i ≡ true
shallow_phi dropped i e = shallow_by dropped i ∙ ap (λ q. on_base q (λ v. not (is_deep (place_steps i) && dropped v.0))) (no_phi i e)

-- the marks say what is dropped
shallow_same : (f g : ℕ → Bool) → ((v : ℕ) → f v ≡ g v) → (i : InstructionKind) → shallow f i ≡ shallow g i
shallow_same f g h i = shallow_by f i ∙ at (store_base i) ∙ sym (shallow_by g i)
  where
    at : (o : Option ValueId) → on_base o (λ v. not (is_deep (place_steps i) && f v.0)) ≡ on_base o (λ v. not (is_deep (place_steps i) && g v.0))
    at none = refl
    at (some v) = ap (λ q. not (is_deep (place_steps i) && q)) (h v.0)

pub shallow_all : (dropped : List Bool) (ds : List ValueId) → ((v : ℕ) → get_or dropped v false ≡ among v ds) → (ks : List Block) → each_block (each_kind (shallow_in dropped)) ks ≡ every (λ k. every (λ i. shallow (λ x. among x ds) i.kind) (behind_phis k.instructions)) ks
shallow_all dropped ds h ks =
    every_same (λ k. each_kind (shallow_in dropped) k.instructions) (λ k. every (λ i. shallow (λ x. among x ds) i.kind) (behind_phis k.instructions))
    (λ k.
    sym (every_behind (shallow_in dropped) (shallow_phi (λ x. get_or dropped x false)) k.instructions)
    ∙ every_same (λ i. shallow_in dropped i.kind) (λ i. shallow (λ x. among x ds) i.kind) (λ i. shallow_same (λ x. get_or dropped x false) (λ x. among x ds) h i.kind) (behind_phis k.instructions))
    ks

-- a place is deep where it has a second projection
deep_some : (ps : List Projection) {p : Projection} → some p ≡ get_elem? ps 1 → is_deep ps ≡ true
unfolding is_deep
deep_some [] e = absurd (let z : ◌≡◌ {A = ℕ} 0 1 = cc in omega arith)
deep_some (q ∷ []) e = absurd (let z : ◌≡◌ {A = ℕ} 0 1 = cc in omega arith)
deep_some (q ∷ r ∷ ps) e = refl

deep_none : (ps : List Projection) → none ≡ get_elem? ps 1 → is_deep ps ≡ false
unfolding is_deep
deep_none [] e = refl
deep_none (q ∷ []) e = refl
deep_none (q ∷ r ∷ ps) e = absurd (let z : ◌≡◌ {A = ℕ} 0 1 = cc in omega arith)

-- what is_shallow finds
module _ (code : Code) (slot : ℕ) (dropped : List Bool) where
  pub shallow_other : (kind_in code.facts.now slot ≡ 6 → ⊥) → OfSlot code slot (λ τ. shallow_in dropped) true
  shallow_other f τ i g a =
      sym (shallow_by (λ x. get_or dropped x false) i.kind ∙ ap (λ q. on_base q (λ v. not (is_deep (place_steps i.kind) && get_or dropped v.0 false))) (base_none i.kind (λ z. f (a.kind ∙ z))))

  module _ (h : kind_in code.facts.now slot ≡ 6) {v : ℕ} {r : Bool} (ev : v ≡ read_in code.facts.now slot 0) (er : r ≡ get_or dropped v false) where
    store_shallow : (i : Instruction) → SlotIn code slot i → shallow_in dropped i.kind ≡ not (is_deep (place_steps i.kind) && r)
    store_shallow i a =
        shallow_by (λ x. get_or dropped x false) i.kind
        ∙ ap (λ q. on_base q (λ v. not (is_deep (place_steps i.kind) && get_or dropped v.0 false))) (base_read code slot i a h ev)
        ∙ ap (λ q. not (is_deep (place_steps i.kind) && q)) (sym er)

    pub shallow_kept : not r ≡ true → OfSlot code slot (λ τ. shallow_in dropped) true
    shallow_kept n τ i g a = sym (store_shallow i a ∙ ap (λ q. not (is_deep (place_steps i.kind) && q)) (not-true r n) ∙ ap not (and-false (is_deep (place_steps i.kind))))

    module _ (n : not r ≡ false) {t : List ℕ} (p : Answered Projection) (et : t ≡ drop (place_in code.facts.now slot) code.bytes.now) (ep : (seen : List Bool) (late : Bool) (i : Instruction) (n : ℕ) → instruction_of code.bounds seen late t ≡ ok i n → as_option p ≡ get_elem? (place_steps i.kind) 1) where
      found : (i : Instruction) → SlotIn code slot i → as_option p ≡ get_elem? (place_steps i.kind) 1
      found i a = ep [] false i _ (ap (λ q. instruction_of code.bounds [] false q) et ∙ a.read)

      pub shallow_found : (k : Bool) → has_some p ≡ not k → OfSlot code slot (λ τ. shallow_in dropped) k
      shallow_found k e τ i g a = back k (has_some p) e ∙ sym (store_shallow i a ∙ go p (found i a))
        where
          back : (k q : Bool) → q ≡ not k → k ≡ not q
          back true q e = rw e refl
          back false q e = rw e refl

          go : (p : Answered Projection) → as_option p ≡ get_elem? (place_steps i.kind) 1 → not (is_deep (place_steps i.kind) && r) ≡ not (has_some p)
          go None e = ap (λ q. not (q && r)) (deep_none (place_steps i.kind) e)
          go (Some q) e = ap (λ q. not (q && r)) (deep_some (place_steps i.kind) e) ∙ n

-- the parts that an instruction takes, by its kind's number
abbrev taken_by : ℕ → InstructionKind → List ValueId
taken_by j i =
    cond (eqb j 6) (found_reads (get_elem? (operand_fields i) 0))
    (cond (eqb j 14 || eqb j 15) (found_reads (get_elem? (operand_fields i) 1))
    (cond (eqb j 10 || (eqb j 12 || eqb j 16)) (reads i) []))

taken : (i : InstructionKind) → parts_taken i ≡ taken_by (kind_number i) i
taken (Assign d v t) = refl
taken (UnaryOp op d v) = refl
taken (BinaryOp op d v w) = refl
taken (Call ds c vs ps rs) = refl
taken (Cast d v t w) = refl
taken (Load d p t) = refl
taken (Store p v t) = refl
taken (Debug m vs) = refl
taken Nop = refl
taken (Phi d t ss) = refl
taken (MakeTuple d vs) = refl
taken (ExtractTupleElement d v m t) = refl
taken (MakeStruct d fs t) = refl
taken (ExtractStructField d v m t) = refl
taken (InsertField d v m w t) = refl
taken (InsertTuple d v m w t) = refl
taken (MakeFixedArray d vs t c) = refl
taken (AssertEq v w) = refl
taken (HeapAllocCells d v) = refl

-- a phi takes none
pub phi_parts : (marks : List Bool) (i : InstructionKind) → is_phi i ≡ true → parts_clear marks i ≡ true
phi_parts marks i e = ap (clear marks) (taken i ∙ ap (λ q. taken_by q i) (eqb→eq (kind_number i) 9 (rw e tt)))

-- an insert takes its new value, which is its second operand
inserts : (k : Kind) → (k ≡ Kind.InsertField) ⊎ (k ≡ Kind.InsertTuple) → (i : InstructionKind) → number_of_kind k ≡ kind_number i → parts_taken i ≡ found_reads (get_elem? (operand_fields i) 1)
inserts k (inl e) i n = taken i ∙ ap (λ q. taken_by q i) (sym n ∙ ap number_of_kind e)
inserts k (inr e) i n = taken i ∙ ap (λ q. taken_by q i) (sym n ∙ ap number_of_kind e)

pub insert_parts : (code : Code) (slot : ℕ) (marks : List Bool) (k : Kind) {t : List ℕ} (f : Answered Value) {r : Bool} → (k ≡ Kind.InsertField) ⊎ (k ≡ Kind.InsertTuple) → number_of_kind k ≡ kind_in code.facts.now slot → t ≡ drop (place_in code.facts.now slot) code.bytes.now
    → ((seen : List Bool) (late : Bool) (i : Instruction) (n : ℕ) → instruction_of code.bounds seen late t ≡ ok i n → as_option f ≡ get_elem? (operand_fields i.kind) 1)
    → r ≡ clear marks (found_reads (as_option f)) → OfSlot code slot (λ τ. parts_clear marks) r
insert_parts code slot marks k f o n et g er τ i c a =
    er ∙ ap (λ y. clear marks (found_reads y)) (g [] false i _ (ap (λ q. instruction_of code.bounds [] false q) et ∙ a.read)) ∙ ap (clear marks) (sym (inserts k o i.kind (n ∙ a.kind)))
