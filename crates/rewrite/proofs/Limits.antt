-- What has no fault stays within 65,535, of whole routines and in both editions.
use Prim.Native.Nat.{ℕ, suc, ◌+◌, ◌≤◌}
use native.Mathlib.Omega.{arith}
use mathlib.Core.Path.{◌≡◌, refl, ap}
use mathlib.Core.List.{List, [], ◌∷◌, ◌++◌}
use mathlib.Core.Bool.{Bool, true, false}
use mathlib.Core.Option.{Option, none, some}
use lib.ListN.{length, length-append}
use Rattle.mir.specs.declared.ValueId.{ValueId}
use Rattle.mir.specs.declared.TypeId.{TypeId}
use Rattle.mir.specs.declared.Value.{Value}
use Rattle.mir.specs.Syntax.{Place, Meta, plain, Instruction, InstructionKind, Terminator, Jump, If, BranchCmp, Return, Unreachable, Block}
use Rattle.mir.specs.Syntax.{Assign, UnaryOp, BinaryOp, Call, Cast, Load, Store, Debug, Nop, Phi}
use Rattle.mir.specs.Syntax.{MakeTuple, ExtractTupleElement, MakeStruct, ExtractStructField, InsertField, InsertTuple, MakeFixedArray, AssertEq, HeapAllocCells}
use Rattle.mir.specs.Routine.{Routine}
use Rattle.mir.specs.Lists.{Each}
use Rattle.mir.specs.Lookup.{Types, types_in}
use Rattle.mir.specs.Phis.{behind_phis, phis_of}
use Rattle.fold.specs.declared.Edition.{Edition}
use Rattle.fold.specs.declared.Settings.{Settings}
use Rattle.rewrite.specs.State.{AggStates, no_states}
use Rattle.rewrite.specs.Fault.{first_met, full_fault, last_number}
use Rattle.rewrite.specs.Rebuild.{Rebuilt, wanted_arguments, wanted_returns}
use Rattle.rewrite.specs.Deep.{wanted_own, rebuild_deep}
use Rattle.rewrite.specs.Readings.{readings}
use Rattle.rewrite.specs.Piece.{Piece, kept, left, assigned}
use Rattle.rewrite.specs.Stays.{guarded, store_rebuilt, store_kept, step_call, stays_first, kept_behind, stays_second, stays_in, stays}
use Rattle.rewrite.specs.Step.{step}
use Rattle.rewrite.specs.Run.{ends, returned, rebuilt_return, finish, glue, Walked, walk, Rewritten, Choice, block_then, skip_then, one_block, all_blocks, choice, rewritten_by, rewritten_blocks}
use Rattle.rewrite.proofs.Within.{met_left, met_right, full_none, Within, Safe, safe_all, safe_second}
use Rattle.rewrite.proofs.Made.{Arm, arm_kind}
use Rattle.rewrite.proofs.Unchanged.{phis_behind}

-- a piece from number n on
abbrev SafePiece : ℕ → Piece → Type 0
SafePiece n p = (l : ℕ) → n ≤ last_number → l ≤ last_number → p.fault l ≡ none → Within n l p.fresh p.out

module _ (S : AggStates) (n : ℕ) where
  safe_kept : (i : Instruction) → SafePiece n (kept S i)
  unfolding kept
  safe_kept i l h g e = record { numbers = omega (arith, h); lines = omega (arith, full_none l e) }

  -- an instruction behind what was rebuilt before it
  safe_behind : (i : Instruction) (r : Rebuilt) (l : ℕ) → Safe n r → n ≤ last_number → l ≤ last_number → first_met (r.fault l) (full_fault (l + length r.before)) ≡ none → Within n l r.fresh (r.before ++ (i ∷ []))
  safe_behind i r l s h g e =
      let w : Within n l r.fresh r.before = s l h g (met_left _ _ e) in
      let f : suc (l + length r.before) ≤ last_number = full_none _ (met_right _ _ e) in
      record { numbers = w.numbers; lines = rw length-append (omega (arith, f)) }

  safe_call : (i : Instruction) (ds : List ValueId) (f : ℕ) (ps rs : List TypeId) (r : Rebuilt) (ts : List TypeId) → r.fresh ≡ ts → Safe n r → SafePiece n (step_call S i ds f ps rs r ts)
  unfolding step_call
  safe_call i ds f ps rs r [] e s = safe_kept i
  safe_call i ds f ps rs r (t ∷ ts) e s = λ l h g z. rw e at (safe_behind (plain (Call ds f r.values ps rs)) r l s h g z)

  safe_store : (m : Meta) (p : Place) (t : TypeId) (r : Rebuilt) (xs : List Value) → Safe n r → SafePiece n (store_rebuilt S m p t r xs)
  unfolding store_rebuilt
  safe_store m p t r [] s = safe_kept _
  safe_store m p t r (x ∷ xs) s = λ l h g z. safe_behind _ r l s h g z

  safe_store_kept : (τ : Types) (i : Instruction) (p : Place) (x : Value) (t : TypeId) (o : Option (List Value)) → SafePiece n (store_kept τ S n i p x t o)
  unfolding store_kept
  safe_store_kept τ i p x t none = safe_kept i
  safe_store_kept τ i p x t (some xs) = safe_store i.meta p t _ _ (safe_all τ S n (record { value = x; at = some t } ∷ []))

  safe_guarded : (b : Bool) (p q : Piece) → SafePiece n p → SafePiece n q → SafePiece n (guarded b p q)
  unfolding guarded
  safe_guarded true p q s r = r
  safe_guarded false p q s r = s

  safe_arm : (i : Instruction) (stay p : Piece) → Arm S i stay p → SafePiece n stay → SafePiece n p
  unfolding left assigned
  safe_arm i stay p Arm.stays_it s = s
  safe_arm i stay p (Arm.leaves_it c S' v) s = λ l h g e. record { numbers = omega (arith, h); lines = omega (arith, g) }
  safe_arm i stay p (Arm.assigns_it c v) s = λ l h g e. record { numbers = omega (arith, h); lines = omega (arith, full_none l e) }

module _ (σ : Settings) (τ : Types) (S : AggStates) (n : ℕ) where
  safe_first : (i : Instruction) (k : InstructionKind) → SafePiece n (stays_first σ τ S n i k)
  unfolding stays_first
  safe_first i (Assign d x t) = safe_kept S n i
  safe_first i (UnaryOp op d x) = safe_kept S n i
  safe_first i (BinaryOp op d x y) = safe_kept S n i
  safe_first i (Call ds f xs ps rs) = safe_call S n i ds f ps rs _ _ refl (safe_all τ S n (wanted_arguments τ xs ps))
  safe_first i (Cast d x t u) = safe_kept S n i
  safe_first i (Load d p t) = safe_kept S n i
  safe_first i (Store p x t) = safe_guarded S n σ.tuples _ _ (safe_kept S n i) (safe_store_kept S n τ i p x t _)
  safe_first i (Debug m xs) = safe_kept S n i
  safe_first i Nop = safe_kept S n i
  safe_first i (Phi d t ss) = safe_kept S n i
  safe_first i (MakeTuple d xs) = safe_kept S n i
  safe_first i (ExtractTupleElement d x k t) = safe_kept S n i
  safe_first i (MakeStruct d fs t) = safe_kept S n i
  safe_first i (ExtractStructField d x f t) = safe_kept S n i
  safe_first i (InsertField d x f y t) = safe_kept S n i
  safe_first i (InsertTuple d x k y t) = safe_kept S n i
  safe_first i (MakeFixedArray d xs t c) = safe_kept S n i
  safe_first i (AssertEq x y) = safe_kept S n i
  safe_first i (HeapAllocCells d x) = safe_kept S n i

  safe_stays : (e : Edition) (i : Instruction) → SafePiece n (stays_in e σ τ S n i)
  unfolding stays_in stays_second kept_behind
  safe_stays Edition.First i = safe_first i i.kind
  safe_stays Edition.Second i = λ l h g z. safe_behind S n _ (rebuild_deep τ S n (wanted_own τ (readings i.kind))) l (safe_second τ S n (wanted_own τ (readings i.kind))) h g z

  -- one step
  pub safe_step : (folds : ValueId → Bool) (i : Instruction) → SafePiece n (step σ τ folds S n i)
  unfolding step stays
  safe_step folds i = safe_arm S n i _ _ (arm_kind σ τ folds S n i.meta i.kind) (safe_stays σ.edition i)

  safe_return : (e : Edition) (xs : List Value) → Safe n (rebuilt_return e τ S n xs)
  unfolding rebuilt_return
  safe_return Edition.First xs = safe_all τ S n (wanted_returns τ xs)
  safe_return Edition.Second xs = safe_second τ S n (wanted_own τ xs)

-- a walk from number n on
abbrev SafeWalk : ℕ → Walked → Type 0
SafeWalk n w = (l : ℕ) → n ≤ last_number → l ≤ last_number → w.fault l ≡ none → Within n l w.fresh w.out

safe_end : (σ : Settings) (τ : Types) (S : AggStates) (n : ℕ) (t : Terminator) → SafeWalk n (finish σ τ S n t)
unfolding finish ends returned
safe_end σ τ S n (Jump b) = λ l h g e. record { numbers = omega (arith, h); lines = omega (arith, g) }
safe_end σ τ S n (If x a b) = λ l h g e. record { numbers = omega (arith, h); lines = omega (arith, g) }
safe_end σ τ S n (BranchCmp op x y a b) = λ l h g e. record { numbers = omega (arith, h); lines = omega (arith, g) }
safe_end σ τ S n (Return xs) = safe_return σ τ S n σ.edition xs
safe_end σ τ S n Unreachable = λ l h g e. record { numbers = omega (arith, h); lines = omega (arith, g) }

safe_glue : (n : ℕ) (p : Piece) (w : Walked) → SafePiece n p → SafeWalk (n + length p.fresh) w → SafeWalk n (glue p w)
unfolding glue
safe_glue n p w s v l h g e =
    let a : Within n l p.fresh p.out = s l h g (met_left _ _ e) in
    let b : Within (n + length p.fresh) (l + length p.out) w.fresh w.out = v (l + length p.out) a.numbers a.lines (met_right _ _ e) in
    record { numbers = rw length-append (omega (arith, b.numbers)); lines = rw length-append (omega (arith, b.lines)) }

-- the instructions of a block behind its phis
pub safe_walk : (σ : Settings) (τ : Types) (folds : ValueId → Bool) (S : AggStates) (n : ℕ) (is : List Instruction) (t : Terminator) → SafeWalk n (walk σ τ folds S n is t)
unfolding walk
safe_walk σ τ folds S n [] t = safe_end σ τ S n t
safe_walk σ τ folds S n (i ∷ is) t =
    let p = step σ τ folds S n i in
    safe_glue n p _ (safe_step σ τ S n folds i) (safe_walk σ τ folds p.states (n + length p.fresh) is t)

-- a block that has at most as many instructions as two bytes count
abbrev pub Short : Block → Type 0
Short k = length k.instructions ≤ last_number

-- the next value and the blocks of a rewriting from number n on
pub record Limited (n : ℕ) (w : Rewritten) : Type 0 where
  pub next : n + length w.fresh ≤ last_number
  pub blocks : Each Short w.blocks

-- few phis
few_phis : (is : List Instruction) → length (phis_of is) ≤ length is
few_phis is = omega (arith, length-append (phis_of is) (behind_phis is), ap length (phis_behind is))

-- a walked block in front of others, and a skipped one
limited_then : (n : ℕ) (k : Block) (w : Walked) (rest : ℕ → Rewritten) → Short k → SafeWalk n w → ((m : ℕ) → m ≤ last_number → (rest m).fault ≡ none → Limited m (rest m)) → n ≤ last_number → let r = block_then (phis_of k.instructions) w (rest (n + length w.fresh)) in r.fault ≡ none → Limited n r
unfolding block_then
limited_then n k w rest h s f g e =
    let a : Within n (length (phis_of k.instructions)) w.fresh w.out = s _ g (omega (arith, h, few_phis k.instructions)) (met_left _ _ e) in
    let b : Limited (n + length w.fresh) (rest (n + length w.fresh)) = f _ a.numbers (met_right _ _ e) in
    record { next = rw length-append (omega (arith, b.next)); blocks = (rw length-append a.lines, b.blocks) }

module _ (σ : Settings) (τ : Types) (c : Choice) where
  limited_block : (n : ℕ) (k : Block) (rest : ℕ → Rewritten) (b : Bool) → Short k → ((m : ℕ) → m ≤ last_number → (rest m).fault ≡ none → Limited m (rest m)) → n ≤ last_number → (one_block σ τ c n k rest b).fault ≡ none → Limited n (one_block σ τ c n k rest b)
  unfolding one_block skip_then
  limited_block n k rest true h f g e = let w : Limited n (rest n) = f n g e in record { next = w.next; blocks = (h, w.blocks) }
  limited_block n k rest false h f g e = limited_then n k _ rest h (safe_walk σ τ (c.folds k) no_states n (behind_phis k.instructions) k.terminator) f g e

  pub limited_blocks : (n : ℕ) (ks : List Block) → Each Short ks → n ≤ last_number → (all_blocks σ τ c n ks).fault ≡ none → Limited n (all_blocks σ τ c n ks)
  unfolding all_blocks
  limited_blocks n [] h g e = record { next = omega (arith, g); blocks = tt }
  limited_blocks n (k ∷ ks) h g e = limited_block n k _ (c.skips k) h.0 (λ m. limited_blocks m ks h.1) g e

-- of a whole routine, by any choice
pub limited_by : (σ : Settings) (c : Choice) (r : Routine) → Each Short r.blocks → r.next ≤ last_number → (rewritten_by σ c r).fault ≡ none → Limited r.next (rewritten_by σ c r)
unfolding rewritten_by
limited_by σ c r = limited_blocks σ (types_in r) c r.next r.blocks

-- what is not refused has at most 65,535 values, and 65,535 instructions in a block
pub limited : (σ : Settings) (r : Routine) → Each Short r.blocks → r.next ≤ last_number → (rewritten_blocks σ r).fault ≡ none → Limited r.next (rewritten_blocks σ r)
unfolding rewritten_blocks
limited σ r = limited_by σ (choice σ r) r
