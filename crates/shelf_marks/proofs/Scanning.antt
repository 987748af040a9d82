-- The reads of a slot, the slots of a block, and the blocks: what is answered of all, and what is left to look at.
use Prim.Native.Nat.{ℕ, zero, suc, zero-le, ◌+◌, ◌-◌, ◌≤◌, ◌<◌}
use mathlib.Core.Path.{◌≡◌, refl, ap, ◌∙◌, sym}
use mathlib.Core.List.{List, [], ◌∷◌}
use mathlib.Core.Bool.{Bool, true, false, cond, not, ◌&&◌, and-false}
use native.Mathlib.Numerals.{add-one}
use native.Mathlib.Omega.{arith}
use lib.ListN.{length, get_or, drop, drop_of_length-le}
use lib.Seq.{drop-cons}
use native.Mathlib.Nat.{zero-add}
use Rattle.std.specs.Bool.{MatchBool}
use Rattle.std.specs.List.{range_with_len, AllWithin, HoldsAt}
use Rattle.std.proofs.lemmas.List.FromFn.{length-range_with_len, get_or-range_with_len}
use Rattle.mir.specs.declared.BlockId.{BlockId}
use Rattle.mir.specs.declared.ValueId.{ValueId}
use Rattle.mir.specs.Syntax.{Instruction, InstructionKind, Block}
use Rattle.mir.specs.Reads.{is_phi}
use Rattle.bytes_index.specs.Table.{starts_in}
use Rattle.bytes_index.specs.Code.{no_instruction, no_block, SlotsOf}
use Rattle.bytes_index.specs.declared.code.Code.{Code}
use Rattle.bytes_index.specs.declared.slots.Slots.{Slots}
use Rattle.mir.specs.Lookup.{Types}
use Rattle.mir.specs.Phis.{behind_phis}
use Rattle.shelf.specs.Lists.{every, clear}
use Rattle.shelf_marks.specs.Tests.{CodedIn, SlotIn, OfBlock, OfRoutine, AsksSlots, AsksBlocks, each_kind}

abbrev no_value : ValueId
no_value = record { 0 = 0 }

-- the next of a list
pub next_of : {A : Type 0} (xs : List A) (k : ℕ) (d : A) → k < length xs → drop k xs ≡ get_or xs k d ∷ drop (k + 1) xs
next_of xs k d h = rw (add-one k) (drop-cons xs k d h)

pub none_of : {A : Type 0} (xs : List A) (k : ℕ) → length xs ≤ k → drop k xs ≡ []
none_of xs k h = drop_of_length-le xs h

-- What is answered of n numbers from a on: all pass, or one fails.
abbrev pub Answers : (ℕ → Bool → Type 0) → ℕ → ℕ → Bool → Type 0
Answers post a n r = MatchBool r ((i : ℕ) → i < n → post (a + i) true) ((i : ℕ) × (i < n) × post (a + i) false)

pub answers : (post : ℕ → Bool → Type 0) (a n : ℕ) (r : Bool)
    → MatchBool r (AllWithin (λ x. post x true) (range_with_len a n) 0 (length (range_with_len a n))) ((i : ℕ) × (i < length (range_with_len a n)) × HoldsAt (λ x. post x false) (range_with_len a n) i)
    → Answers post a n r
answers post a n true h = λ i l. rw (get_or-range_with_len a n i 0 l) at (h i 0 zero-le (omega (arith, length-range_with_len a n)))
answers post a n false h = let l : h.0 < n = omega (arith, h.1, length-range_with_len a n) in (h.0, l, rw (get_or-range_with_len a n h.0 0 l) at (h.2 0))

module _ {A : Type 0} (q : A → Bool) (d : A) where
  all_pass : (xs : List A) → ((i : ℕ) → i < length xs → true ≡ q (get_or xs i d)) → true ≡ every q xs
  all_pass [] h = refl
  all_pass (x ∷ xs) h = all_pass xs (λ i l. h (suc i) (omega arith)) ∙ ap (λ b. b && every q xs) (h 0 (omega arith))

  one_fails : (xs : List A) (i : ℕ) → i < length xs → false ≡ q (get_or xs i d) → false ≡ every q xs
  one_fails [] i h e = absurd (omega arith)
  one_fails (x ∷ xs) zero h e = ap (λ b. b && every q xs) e
  one_fails (x ∷ xs) (suc i) h e = sym (and-false (q x)) ∙ ap (λ b. q x && b) (one_fails xs i (omega arith) e)

  -- where each answer is what q says of an element, it is what q says of all
  pub each_answered : (post : ℕ → Bool → Type 0) (a n : ℕ) (xs : List A) → n ≡ length xs → ((i : ℕ) (r : Bool) → i < n → post (a + i) r → r ≡ q (get_or xs i d)) → (r : Bool) → Answers post a n r → r ≡ every q xs
  each_answered post a n xs e f true h = all_pass xs (λ i l. f i true (omega (arith, e)) (h i (omega (arith, e))))
  each_answered post a n xs e f false h = one_fails xs h.0 (omega (arith, e, h.1)) (f h.0 false h.1 h.2)

-- values that are looked up one after another: where is none marked
pub clear_answered : (f : ℕ → ℕ) (n : ℕ) (marks : List Bool) (vs : List ValueId) → n ≡ length vs → ((k : ℕ) → k < n → f k ≡ (get_or vs k no_value).0) → (r : Bool) → Answers (λ k b. b ≡ not (get_or marks (f k) false)) 0 n r → r ≡ clear marks vs
clear_answered f n marks vs e g r h =
    each_answered (λ v. not (get_or marks v.0 false)) no_value (λ k b. b ≡ not (get_or marks (f k) false)) 0 n vs e
    (λ i b l u. u ∙ ap (λ x. not (get_or marks x false)) (ap f (zero-add i) ∙ g i l)) r h

-- the instruction in a slot of block k
pub block_holds : (code : Code) (k slot : ℕ) (τ : Types) (ks : List Block) → CodedIn code τ ks → k < length ks → get_or (starts_in code.facts.now) k 0 ≤ slot → slot < get_or (starts_in code.facts.now) k 0 + length (get_or ks k no_block).instructions → SlotIn code slot (get_or (get_or ks k no_block).instructions (slot - get_or (starts_in code.facts.now) k 0) no_instruction)
block_holds code k slot τ ks c h f g =
    let first = get_or (starts_in code.facts.now) k 0 in
    let z : first + (slot - first) ≡ slot = omega arith in
    rw z at ((c.code.each k h).instructions (slot - first) (omega arith))

pub slot_holds : (code : Code) (k : ℕ) (at : Slots) → SlotsOf code.facts.now k at → (i : ℕ) → i < at.count → (τ : Types) (ks : List Block) → CodedIn code τ ks → k < length ks → SlotIn code (at.first + i) (get_or (get_or ks k no_block).instructions i no_instruction)
slot_holds code k at el i g τ ks c h =
    let w = el code.bounds code.bytes.now ks c.code h in
    rw w.0 ((c.code.each k h).instructions i (omega (arith, w.1)))

-- The slots of block k from number i on are left of what f asks of its instructions; x stands for what is changed on the way.
abbrev pub SlotsLeft : {X A : Type 0} → Code → ℕ → (Types → X → List Instruction → A) → X → X → ℕ → Type 0
SlotsLeft code k f x₀ x i = (τ : Types) (ks : List Block) → CodedIn code τ ks → k < length ks → f τ x₀ (get_or ks k no_block).instructions ≡ f τ x (drop i (get_or ks k no_block).instructions)

module _ {X A : Type 0} (code : Code) (k : ℕ) (f : Types → X → List Instruction → A) (at : Slots) (el : SlotsOf code.facts.now k at) {x₀ x : X} {i : ℕ} (u : SlotsLeft code k f x₀ x i) where
  module _ (g : i < at.count) (τ : Types) (ks : List Block) (c : CodedIn code τ ks) (h : k < length ks) where
    pub slot_next : f τ x₀ (get_or ks k no_block).instructions ≡ f τ x (get_or (get_or ks k no_block).instructions i no_instruction ∷ drop (i + 1) (get_or ks k no_block).instructions)
    slot_next = u τ ks c h ∙ ap (f τ x) (next_of (get_or ks k no_block).instructions i no_instruction (omega (arith, (el code.bounds code.bytes.now ks c.code h).1)))

  -- the next is looked at
  pub slots_again : i < at.count → {x' : X} → ((τ : Types) (ks : List Block) (y : Instruction) (is : List Instruction) → CodedIn code τ ks → SlotIn code (at.first + i) y → f τ x (y ∷ is) ≡ f τ x' is) → SlotsLeft code k f x₀ x' (i + 1)
  slots_again g e τ ks c h = slot_next g τ ks c h ∙ e τ ks _ _ c (slot_holds code k at el i g τ ks c h)

  pub slots_done : at.count ≤ i → (τ : Types) (ks : List Block) → CodedIn code τ ks → k < length ks → f τ x₀ (get_or ks k no_block).instructions ≡ f τ x []
  slots_done g τ ks c h = u τ ks c h ∙ ap (f τ x) (none_of (get_or ks k no_block).instructions i (omega (arith, (el code.bounds code.bytes.now ks c.code h).1)))

-- a test of the slots of a block
pub slots_answered : (code : Code) (k : ℕ) (at : Slots) (post : ℕ → Bool → Type 0) → SlotsOf code.facts.now k at → (r : Bool) → Answers post at.first at.count r
    → (p : Types → InstructionKind → Bool) → AsksSlots code post p → OfBlock code k (λ τ y. each_kind (p τ) y.instructions) r
slots_answered code k at post el r h p a τ ks c l =
    let is = (get_or ks k no_block).instructions in
    let w = el code.bounds code.bytes.now ks c.code l in
    each_answered (λ y. p τ y.kind) no_instruction post at.first at.count is w.1
    (λ i b g e. a (at.first + i) b (omega (arith, at.low)) e τ _ c.ground (slot_holds code k at el i g τ ks c l)) r h

-- The blocks from k on are left of what f asks of all.
abbrev pub Blocks : {X A : Type 0} → Code → (Types → X → List Block → A) → X → X → ℕ → Type 0
Blocks code f x₀ x k = (τ : Types) (ks : List Block) → CodedIn code τ ks → f τ x₀ ks ≡ f τ x (drop k ks)

module _ {X A : Type 0} (code : Code) (f : Types → X → List Block → A) {k : ℕ} {x₀ x : X} (u : Blocks code f x₀ x k) where
  pub blocks_next : k < code.bounds.blocks → (τ : Types) (ks : List Block) → CodedIn code τ ks → f τ x₀ ks ≡ f τ x (get_or ks k no_block ∷ drop (k + 1) ks)
  blocks_next g τ ks c = u τ ks c ∙ ap (f τ x) (next_of ks k no_block (omega (arith, c.many)))

  pub blocks_done : code.bounds.blocks ≤ k → (τ : Types) (ks : List Block) → CodedIn code τ ks → f τ x₀ ks ≡ f τ x []
  blocks_done g τ ks c = u τ ks c ∙ ap (f τ x) (none_of ks k (omega (arith, c.many)))

-- a test of the blocks
pub blocks_answered : (code : Code) (post : BlockId → Bool → Type 0) (r : Bool) → code.bounds.blocks < 65536 → Answers (λ k. post (record { 0 = k })) 0 code.bounds.blocks r → (q : Types → Block → Bool) → AsksBlocks code post q → OfRoutine code (λ τ ks. every (q τ) ks) r
blocks_answered code post r low h q a τ ks c =
    each_answered (q τ) no_block (λ k. post (record { 0 = k })) 0 code.bounds.blocks ks (sym c.many)
    (λ i b g e. a (record { 0 = i }) b (omega arith) (rw (zero-add i) at e) τ ks c (omega (arith, c.many))) r h

-- a test that phis pass says the same behind them
pub every_behind : (p : InstructionKind → Bool) → ((i : InstructionKind) → is_phi i ≡ true → p i ≡ true) → (is : List Instruction) → each_kind p (behind_phis is) ≡ each_kind p is
unfolding behind_phis
every_behind p h [] = refl
every_behind p h (i ∷ is) = at (is_phi i.kind) refl (every_behind p h is)
  where
    at : (c : Bool) → is_phi i.kind ≡ c → each_kind p (behind_phis is) ≡ each_kind p is → each_kind p (cond c (behind_phis is) (i ∷ is)) ≡ (p i.kind && each_kind p is)
    at true e g = g ∙ sym (ap (λ q. q && each_kind p is) (h i.kind e))
    at false e g = refl

-- tests that say the same of each say the same of all
pub every_same : {A : Type 0} (p q : A → Bool) → ((a : A) → p a ≡ q a) → (xs : List A) → every p xs ≡ every q xs
every_same p q h [] = refl
every_same p q h (x ∷ xs) = rw (h x, every_same p q h xs)
