-- Where the choice folds no build of a block that is not skipped, nothing changes.
use Prim.Native.Nat.{◌+◌, ℕ, suc, ◌<◌}
use mathlib.Core.Path.{◌≡◌, refl, ap, ◌∙◌}
use mathlib.Core.List.{List, [], ◌∷◌}
use mathlib.Core.Bool.{Bool, true, false, cond}
use mathlib.Core.Option.{some}
use native.Mathlib.Omega.{arith}
use lib.ListN.{length, get_or}
use Rattle.mir.specs.declared.ValueId.{ValueId}
use Rattle.mir.specs.Syntax.{Instruction, InstructionKind, Terminator, Block}
use Rattle.mir.specs.Syntax.{Assign, UnaryOp, BinaryOp, Call, Cast, Load, Store, Debug, Nop, Phi}
use Rattle.mir.specs.Syntax.{MakeTuple, ExtractTupleElement, MakeStruct, ExtractStructField, InsertField, InsertTuple, MakeFixedArray, AssertEq, HeapAllocCells}
use Rattle.mir.specs.Reads.{is_phi}
use Rattle.mir.specs.Routine.{Routine}
use Rattle.bytes_index.specs.Code.{no_instruction, no_block}
use Rattle.fold.specs.declared.Settings.{Settings}
use Rattle.mir.specs.Lists.{Each}
use Rattle.mir.specs.Lookup.{Types, types_in}
use Rattle.fold.specs.Family.{build_dest}
use Rattle.mir.specs.Phis.{behind_phis, phis_of}
use Rattle.rewrite.specs.State.{AggStates, no_states}
use Rattle.rewrite.specs.Step.{step_kind, step}
use Rattle.rewrite.specs.Run.{glue, walk, Rewritten, Choice, block_then, skip_then, one_block, all_blocks, choice, rewritten_blocks}
use Rattle.rewrite.proofs.Result.{quiet_blocks}

-- each element, by its number
each_of : {A : Type 0} (P : A → Type 0) (e : A) (xs : List A) → ((j : ℕ) → j < length xs → P (get_or xs j e)) → Each P xs
each_of P e [] h = tt
each_of P e (x ∷ xs) h = (h 0 (omega arith), each_of P e xs (λ j l. h (suc j) (omega arith)))

-- a choice that folds nothing
abbrev never : ValueId → Bool
never v = false

-- a build that the choice does not fold, or no build
abbrev Kept : (ValueId → Bool) → Instruction → Type 0
Kept folds i = (d : ValueId) → build_dest i.kind ≡ some d → folds d ≡ false

module _ (σ : Settings) (τ : Types) (folds : ValueId → Bool) where
  -- a step asks the choice of its own build alone
  kept_kind : (S : AggStates) (n : ℕ) (i : Instruction) (k : InstructionKind) → ((d : ValueId) → build_dest k ≡ some d → folds d ≡ false) → step_kind σ τ folds S n i k ≡ step_kind σ τ never S n i k
  unfolding step_kind build_dest
  kept_kind S n i (Assign d x t) h = refl
  kept_kind S n i (UnaryOp op d x) h = refl
  kept_kind S n i (BinaryOp op d x y) h = refl
  kept_kind S n i (Call ds f xs ps rs) h = refl
  kept_kind S n i (Cast d x t u) h = refl
  kept_kind S n i (Load d p t) h = refl
  kept_kind S n i (Store p x t) h = refl
  kept_kind S n i (Debug m xs) h = refl
  kept_kind S n i Nop h = refl
  kept_kind S n i (Phi d t ss) h = refl
  kept_kind S n i (MakeTuple d xs) h = rw (h d refl)
  kept_kind S n i (ExtractTupleElement d x k t) h = refl
  kept_kind S n i (MakeStruct d fs t) h = rw (h d refl)
  kept_kind S n i (ExtractStructField d x f t) h = refl
  kept_kind S n i (InsertField d x f y t) h = refl
  kept_kind S n i (InsertTuple d x k y t) h = refl
  kept_kind S n i (MakeFixedArray d xs t c) h = rw (h d refl)
  kept_kind S n i (AssertEq x y) h = refl
  kept_kind S n i (HeapAllocCells d x) h = refl

  kept_step : (S : AggStates) (n : ℕ) (i : Instruction) → Kept folds i → step σ τ folds S n i ≡ step σ τ never S n i
  unfolding step
  kept_step S n i h = kept_kind S n i i.kind h

  -- so does a walk
  kept_walk : (S : AggStates) (n : ℕ) (is : List Instruction) (t : Terminator) → Each (Kept folds) is → walk σ τ folds S n is t ≡ walk σ τ never S n is t
  unfolding walk
  kept_walk S n [] t h = refl
  kept_walk S n (i ∷ is) t h =
      let p = step σ τ never S n i in
      rw (kept_step S n i h.0) (ap (λ w. glue p w) (kept_walk p.states (n + length p.fresh) is t h.1))

-- behind the phis
kept_behind : (P : Instruction → Type 0) (is : List Instruction) → Each P is → Each P (behind_phis is)
unfolding behind_phis
kept_behind P [] h = tt
kept_behind P (i ∷ is) h = go (is_phi i.kind) (kept_behind P is h.1)
  where
    go : (b : Bool) → Each P (behind_phis is) → Each P (cond b (behind_phis is) (i ∷ is))
    go true g = g
    go false g = h

module _ (σ : Settings) (τ : Types) (c : Choice) where
  abbrev idle : Choice
  idle = record { folds = λ k v. false; skips = c.skips }

  -- a block of which no build is folded, or that is skipped
  abbrev Idle : Block → Type 0
  Idle k = c.skips k ≡ false → Each (Kept (c.folds k)) k.instructions

  idle_block : (n : ℕ) (k : Block) (rest rest' : ℕ → Rewritten) (b : Bool) → (b ≡ false → Each (Kept (c.folds k)) k.instructions) → ((m : ℕ) → rest m ≡ rest' m) → one_block σ τ c n k rest b ≡ one_block σ τ idle n k rest' b
  unfolding one_block
  idle_block n k rest rest' true h f = ap (λ r. skip_then k r) (f n)
  idle_block n k rest rest' false h f = rw (kept_walk σ τ (c.folds k) no_states n (behind_phis k.instructions) k.terminator (kept_behind (Kept (c.folds k)) k.instructions (h refl))) (ap (λ r. block_then (phis_of k.instructions) (walk σ τ never no_states n (behind_phis k.instructions) k.terminator) r) (f _))

  idle_blocks : (n : ℕ) (ks : List Block) → Each Idle ks → all_blocks σ τ c n ks ≡ all_blocks σ τ idle n ks
  unfolding all_blocks
  idle_blocks n [] h = refl
  idle_blocks n (k ∷ ks) h = idle_block n k _ _ (c.skips k) h.0 (λ m. idle_blocks m ks h.1)

  still_blocks : (n : ℕ) (ks : List Block) → Each Idle ks → (all_blocks σ τ c n ks).changed ≡ false
  still_blocks n ks h = ap (λ (r : Rewritten). r.changed) (idle_blocks n ks h) ∙ quiet_blocks σ τ idle (λ k v. refl) n ks

-- where no build of a block that is not skipped is folded, the result is false
pub still : (σ : Settings) (r : Routine)
    → ((k j : ℕ) (d : ValueId)
    → k < length r.blocks
    → (choice σ r).skips (get_or r.blocks k no_block) ≡ false
    → j < length (get_or r.blocks k no_block).instructions
    → build_dest (get_or (get_or r.blocks k no_block).instructions j no_instruction).kind ≡ some d
    → (choice σ r).folds (get_or r.blocks k no_block) d ≡ false)
    → (rewritten_blocks σ r).changed ≡ false
unfolding rewritten_blocks
still σ r h = still_blocks σ (types_in r) (choice σ r) r.next r.blocks (each_of (Idle σ (types_in r) (choice σ r)) no_block r.blocks (λ k l s. each_of (Kept ((choice σ r).folds (get_or r.blocks k no_block))) no_instruction (get_or r.blocks k no_block).instructions (λ j m d e. h k j d l s m e)))
