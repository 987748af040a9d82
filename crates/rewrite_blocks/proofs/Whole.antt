-- A block with its count in front, a skipped block, and all blocks one after another.
use Prim.Native.Nat.{ℕ, suc, ◌+◌, ◌≤◌}
use mathlib.Core.Path.{◌≡◌, refl, ap, ◌∙◌, sym}
use mathlib.Core.List.{List, [], ◌∷◌, ◌++◌, append-nil}
use mathlib.Core.Bool.{Bool, true, false, cond}
use mathlib.Core.Option.{none}
use native.Mathlib.Omega.{arith}
use native.Mathlib.Nat.{add-zero, zero-add}
use lib.ListN.{length, length-append}
use Rattle.mir.specs.declared.ValueId.{ValueId}
use Rattle.mir.specs.Syntax.{Instruction, InstructionKind, Terminator, Block}
use Rattle.mir.specs.Syntax.{Assign, UnaryOp, BinaryOp, Call, Cast, Load, Store, Debug, Nop, Phi}
use Rattle.mir.specs.Syntax.{MakeTuple, ExtractTupleElement, MakeStruct, ExtractStructField, InsertField, InsertTuple, MakeFixedArray, AssertEq, HeapAllocCells}
use Rattle.mir.specs.Reads.{is_phi}
use Rattle.bytes_block.specs.Encode.{block_bytes}
use Rattle.fold.specs.declared.Edition.{Edition}
use Rattle.fold.specs.declared.Settings.{Settings}
use Rattle.mir.specs.Lookup.{Types}
use Rattle.mir.specs.Phis.{behind_phis, phis_of}
use Rattle.rewrite.specs.State.{AggStates, no_states}
use Rattle.rewrite.specs.Fault.{first_met, full_fault, lines_fault}
use Rattle.rewrite.proofs.Calm.{full_below}
use Rattle.rewrite.proofs.Unchanged.{phis_behind}
use Rattle.rewrite.specs.Rebuild.{untouched}
use Rattle.rewrite.specs.Deep.{wanted_own, deep_values, deep_all, rebuild_deep}
use Rattle.rewrite.specs.Readings.{readings, with_readings}
use Rattle.rewrite.specs.Piece.{Piece, kept, no_counts}
use Rattle.rewrite.specs.Stays.{any_fresh, kept_behind, stays_first, stays_second, stays_in, stays}
use Rattle.rewrite.specs.Step.{step, step_kind}
use Rattle.rewrite.specs.Run.{Walked, Rewritten, Choice, glue, walk, block_then, skip_then, one_block, all_blocks}
use Rattle.rewrite_progress.specs.Effect.{then_effect, rewritten_effect}
use Rattle.rewrite_progress.proofs.Faults.{first_assoc, first_none, met_next}
use Rattle.rewrite_perform.specs.Performed.{block_effect}

-- the phis in front of a walk, of which the faults are left out
abbrev pub with_phis : List Instruction → Walked → Walked
with_phis is w = record { out = is ++ w.out; terminator = w.terminator; dropped = w.dropped; fresh = w.fresh; counts = w.counts; changed = w.changed; fault = λ l. none }

-- a phi stays, and nothing is rebuilt for it
data Phis (σ : Settings) (τ : Types) (folds : ValueId → Bool) (S : AggStates) (n : ℕ) (i : Instruction) (k : InstructionKind) : Type 0 where
  phis : step_kind σ τ folds S n i k ≡ stays σ τ S n i → stays_first σ τ S n i k ≡ kept S i → readings k ≡ [] → with_readings k [] ≡ k → Phis σ τ folds S n i k

phi_stays : (σ : Settings) (τ : Types) (folds : ValueId → Bool) (S : AggStates) (n : ℕ) (i : Instruction) (k : InstructionKind) → is_phi k ≡ true → Phis σ τ folds S n i k
unfolding step_kind stays_first readings with_readings
phi_stays σ τ folds S n i (Assign d x t) h = absurd (let z : ◌≡◌ {A = ℕ} 0 1 = cc in omega arith)
phi_stays σ τ folds S n i (UnaryOp op d x) h = absurd (let z : ◌≡◌ {A = ℕ} 0 1 = cc in omega arith)
phi_stays σ τ folds S n i (BinaryOp op d x y) h = absurd (let z : ◌≡◌ {A = ℕ} 0 1 = cc in omega arith)
phi_stays σ τ folds S n i (Call ds f xs ps rs) h = absurd (let z : ◌≡◌ {A = ℕ} 0 1 = cc in omega arith)
phi_stays σ τ folds S n i (Cast d x t u) h = absurd (let z : ◌≡◌ {A = ℕ} 0 1 = cc in omega arith)
phi_stays σ τ folds S n i (Load d p t) h = absurd (let z : ◌≡◌ {A = ℕ} 0 1 = cc in omega arith)
phi_stays σ τ folds S n i (Store p x t) h = absurd (let z : ◌≡◌ {A = ℕ} 0 1 = cc in omega arith)
phi_stays σ τ folds S n i (Debug m xs) h = absurd (let z : ◌≡◌ {A = ℕ} 0 1 = cc in omega arith)
phi_stays σ τ folds S n i Nop h = absurd (let z : ◌≡◌ {A = ℕ} 0 1 = cc in omega arith)
phi_stays σ τ folds S n i (Phi d t ss) h = phis refl refl refl refl
phi_stays σ τ folds S n i (MakeTuple d xs) h = absurd (let z : ◌≡◌ {A = ℕ} 0 1 = cc in omega arith)
phi_stays σ τ folds S n i (ExtractTupleElement d x k t) h = absurd (let z : ◌≡◌ {A = ℕ} 0 1 = cc in omega arith)
phi_stays σ τ folds S n i (MakeStruct d fs t) h = absurd (let z : ◌≡◌ {A = ℕ} 0 1 = cc in omega arith)
phi_stays σ τ folds S n i (ExtractStructField d x f t) h = absurd (let z : ◌≡◌ {A = ℕ} 0 1 = cc in omega arith)
phi_stays σ τ folds S n i (InsertField d x f y t) h = absurd (let z : ◌≡◌ {A = ℕ} 0 1 = cc in omega arith)
phi_stays σ τ folds S n i (InsertTuple d x k y t) h = absurd (let z : ◌≡◌ {A = ℕ} 0 1 = cc in omega arith)
phi_stays σ τ folds S n i (MakeFixedArray d xs t c) h = absurd (let z : ◌≡◌ {A = ℕ} 0 1 = cc in omega arith)
phi_stays σ τ folds S n i (AssertEq x y) h = absurd (let z : ◌≡◌ {A = ℕ} 0 1 = cc in omega arith)
phi_stays σ τ folds S n i (HeapAllocCells d x) h = absurd (let z : ◌≡◌ {A = ℕ} 0 1 = cc in omega arith)

-- a block's first instructions have no fault
few_lines : (l : ℕ) (is : List Instruction) → l + length is ≤ 65535 → lines_fault l is ≡ none
unfolding lines_fault first_met
few_lines l [] h = refl
few_lines l (i ∷ is) h = rw (full_below l (omega arith)) (few_lines (suc l) is (omega arith))

-- a piece that is the instruction itself
record Itself (S : AggStates) (i : Instruction) (p : Piece) : Type 0 where
  out : p.out ≡ i ∷ []
  dropped : p.dropped ≡ []
  states : p.states ≡ S
  fresh : p.fresh ≡ []
  counts : p.counts ≡ no_counts
  changed : p.changed ≡ false
  fault : (l : ℕ) → p.fault l ≡ full_fault l

itself_kept : (S : AggStates) (i : Instruction) → Itself S i (kept S i)
unfolding kept
itself_kept S i = record { out = refl; dropped = refl; states = refl; fresh = refl; counts = refl; changed = refl; fault = λ l. refl }

-- behind no rebuilds
itself_behind : (S : AggStates) (i : Instruction) → with_readings i.kind [] ≡ i.kind → Itself S i (kept_behind S i (untouched []))
unfolding kept_behind any_fresh first_met
itself_behind S i e =
    record {
      out = ap (λ (k : InstructionKind). record { meta = i.meta; kind = k } ∷ []) e;
      dropped = refl;
      states = refl;
      fresh = refl;
      counts = refl;
      changed = refl;
      fault = λ l. ap full_fault (add-zero l);
    }

nothing_read : (τ : Types) (S : AggStates) (n : ℕ) → rebuild_deep τ S n (wanted_own τ []) ≡ untouched []
unfolding rebuild_deep deep_all deep_values wanted_own
nothing_read τ S n = refl

module _ (σ : Settings) (τ : Types) (folds : ValueId → Bool) where
  phi_itself : (S : AggStates) (n : ℕ) (i : Instruction) → is_phi i.kind ≡ true → Itself S i (step σ τ folds S n i)
  unfolding step stays stays_in stays_second
  phi_itself S n i h = elim (phi_stays σ τ folds S n i i.kind h) [ phis e k r w ↦ by_edition e k r w σ.edition refl ]
    where
      by_edition : step_kind σ τ folds S n i i.kind ≡ stays σ τ S n i → stays_first σ τ S n i i.kind ≡ kept S i → readings i.kind ≡ [] → with_readings i.kind [] ≡ i.kind → (d : Edition) → σ.edition ≡ d → Itself S i (step_kind σ τ folds S n i i.kind)
      by_edition e k r w Edition.First z =
          let q : step_kind σ τ folds S n i i.kind ≡ kept S i = e ∙ ap (λ d. stays_in d σ τ S n i) z ∙ k in
          rw q (itself_kept S i)
      by_edition e k r w Edition.Second z =
          let q : step_kind σ τ folds S n i i.kind ≡ kept_behind S i (untouched []) =
          e ∙ ap (λ d. stays_in d σ τ S n i) z ∙ ap (λ xs. kept_behind S i (rebuild_deep τ S n (wanted_own τ xs))) r ∙ ap (kept_behind S i) (nothing_read τ S n) in
          rw q (itself_behind S i w)

  -- a phi leaves all but itself
  walk_phi : (S : AggStates) (n : ℕ) (i : Instruction) (is : List Instruction) (t : Terminator) → is_phi i.kind ≡ true → with_phis [] (walk σ τ folds S n (i ∷ is) t) ≡ with_phis (i ∷ []) (walk σ τ folds S n is t)
  unfolding walk glue
  walk_phi S n i is t h = let p = phi_itself S n i h in rw (p.out, p.dropped, p.states, p.fresh, p.counts, p.changed, add-zero n) (simp (zero-add))

  -- the walk over all instructions is the phis and the walk behind them
  pub walk_phis : (S : AggStates) (n : ℕ) (is : List Instruction) (t : Terminator) → with_phis [] (walk σ τ folds S n is t) ≡ with_phis (phis_of is) (walk σ τ folds S n (behind_phis is) t)
  unfolding phis_of behind_phis
  walk_phis S n [] t = refl
  walk_phis S n (i ∷ is) t = by_phi (walk_phis S n is t) (is_phi i.kind) refl
    where
      by_phi : with_phis [] (walk σ τ folds S n is t) ≡ with_phis (phis_of is) (walk σ τ folds S n (behind_phis is) t) → (f : Bool) → is_phi i.kind ≡ f
          → with_phis [] (walk σ τ folds S n (i ∷ is) t) ≡ with_phis (cond (is_phi i.kind) (i ∷ phis_of is) []) (walk σ τ folds S n (cond (is_phi i.kind) (behind_phis is) (i ∷ is)) t)
      by_phi g true e = rw e (walk_phi S n i is t e ∙ ap (λ w. with_phis (i ∷ []) w) g)
      by_phi g false e = rw e refl

  -- a phi's fault is that of one more line
  phi_fault : (S : AggStates) (n l : ℕ) (i : Instruction) (is : List Instruction) (t : Terminator) → is_phi i.kind ≡ true → (walk σ τ folds S n (i ∷ is) t).fault l ≡ first_met (full_fault l) ((walk σ τ folds S n is t).fault (suc l))
  unfolding walk glue
  phi_fault S n l i is t h =
      let p = phi_itself S n i h in
      let z : l + 1 ≡ suc l = omega arith in
      rw (p.fault l, p.out, p.states, p.fresh, add-zero n, z) refl

  walk_fault : (S : AggStates) (n l : ℕ) (is : List Instruction) (t : Terminator) → (walk σ τ folds S n is t).fault l ≡ first_met (lines_fault l (phis_of is)) ((walk σ τ folds S n (behind_phis is) t).fault (l + length (phis_of is)))
  unfolding phis_of behind_phis lines_fault first_met
  walk_fault S n l [] t = rw (add-zero l) refl
  walk_fault S n l (i ∷ is) t = by_phi (walk_fault S n (suc l) is t) (is_phi i.kind) refl
    where
      by_phi : (walk σ τ folds S n is t).fault (suc l) ≡ first_met (lines_fault (suc l) (phis_of is)) ((walk σ τ folds S n (behind_phis is) t).fault (suc l + length (phis_of is))) → (f : Bool) → is_phi i.kind ≡ f
          → (walk σ τ folds S n (i ∷ is) t).fault l ≡ first_met (lines_fault l (cond (is_phi i.kind) (i ∷ phis_of is) [])) ((walk σ τ folds S n (cond (is_phi i.kind) (behind_phis is) (i ∷ is)) t).fault (l + length (cond (is_phi i.kind) (i ∷ phis_of is) [])))
      by_phi g true e =
          let m = suc l + length (phis_of is) in
          let z : l + suc (length (phis_of is)) ≡ m = omega arith in
          rw (e, z) (phi_fault S n l i is t e ∙ ap (λ x. first_met (full_fault l) x) g ∙ sym (first_assoc (full_fault l) (lines_fault (suc l) (phis_of is)) ((walk σ τ folds S n (behind_phis is) t).fault m)))
      by_phi g false e = rw (e, add-zero l) refl

  -- the phis of a block are too few for one
  pub behind_fault : (S : AggStates) (n : ℕ) (is : List Instruction) (t : Terminator) → length is ≤ 65535 → (walk σ τ folds S n is t).fault 0 ≡ (walk σ τ folds S n (behind_phis is) t).fault (length (phis_of is))
  behind_fault S n is t h =
      walk_fault S n 0 is t ∙ met_next ((walk σ τ folds S n (behind_phis is) t).fault (0 + length (phis_of is))) (few_lines 0 (phis_of is) (omega (arith, length-append (phis_of is) (behind_phis is), ap length (phis_behind is)))) ∙ ap (λ m. (walk σ τ folds S n (behind_phis is) t).fault m) (zero-add (length (phis_of is)))

module _ (σ : Settings) (τ : Types) (c : Choice) (n : ℕ) (x : Block) where
  -- a block alone
  abbrev pub alone : Rewritten
  alone = all_blocks σ τ c n (x ∷ [])

  abbrev pub own : Walked
  own = walk σ τ (c.folds x) no_states n x.instructions x.terminator

  -- a skipped block is as it was
  pub skip_effect : c.skips x ≡ true → (rewritten_effect alone ≡ record { bytes = block_bytes x; lines = 0; dropped = []; fresh = []; counts = no_counts }) × ((alone.fault ≡ none) × (alone.fresh ≡ []))
  unfolding rewritten_effect all_blocks one_block skip_then
  skip_effect e = rw e (simp (append-nil), (refl, refl))

  -- any other is walked, its phis kept
  behind_effect : (w : Walked) → with_phis [] own ≡ with_phis (phis_of x.instructions) w → (rewritten_effect (block_then (phis_of x.instructions) w (all_blocks σ τ c (n + length w.fresh) [])) ≡ block_effect own) × ((block_then (phis_of x.instructions) w (all_blocks σ τ c (n + length w.fresh) [])).fresh ≡ own.fresh)
  unfolding rewritten_effect all_blocks block_then block_effect
  behind_effect w e = (rw (ap (λ y. y.out) e, ap (λ y. y.terminator) e, ap (λ y. y.dropped) e, ap (λ y. y.fresh) e, ap (λ y. y.counts) e) (simp (append-nil, add-zero)), append-nil _ ∙ sym (ap (λ y. y.fresh) e))

  alone_fault : (w : Walked) → (block_then (phis_of x.instructions) w (all_blocks σ τ c (n + length w.fresh) [])).fault ≡ w.fault (length (phis_of x.instructions))
  unfolding block_then all_blocks
  alone_fault w = first_none (w.fault (length (phis_of x.instructions)))

  pub walk_effect : c.skips x ≡ false → length x.instructions ≤ 65535 → (rewritten_effect alone ≡ block_effect own) × ((alone.fault ≡ own.fault 0) × (alone.fresh ≡ own.fresh))
  unfolding all_blocks one_block
  walk_effect e few =
      let w = walk σ τ (c.folds x) no_states n (behind_phis x.instructions) x.terminator in
      let z : alone ≡ block_then (phis_of x.instructions) w (all_blocks σ τ c (n + length w.fresh) []) = rw e refl in
      let y = behind_effect w (walk_phis σ τ (c.folds x) no_states n x.instructions x.terminator) in
      (ap rewritten_effect z ∙ y.0, (ap (λ v. v.fault) z ∙ alone_fault w ∙ sym (behind_fault σ τ (c.folds x) no_states n x.instructions x.terminator few), ap (λ v. v.fresh) z ∙ y.1))

  -- a block in front of others
  abbrev further_on : ℕ
  further_on = n + length alone.fresh

  pub cons_blocks : (ks : List Block) → (rewritten_effect (all_blocks σ τ c n (x ∷ ks)) ≡ then_effect (rewritten_effect alone) (rewritten_effect (all_blocks σ τ c further_on ks))) × (((all_blocks σ τ c n (x ∷ ks)).fault ≡ first_met alone.fault (all_blocks σ τ c further_on ks).fault) × ((all_blocks σ τ c n (x ∷ ks)).fresh ≡ alone.fresh ++ (all_blocks σ τ c further_on ks).fresh))
  unfolding rewritten_effect then_effect all_blocks one_block skip_then block_then first_met
  cons_blocks ks = by_skip (c.skips x)
    where
      by_skip : (f : Bool)
          → (rewritten_effect (one_block σ τ c n x (λ m. all_blocks σ τ c m ks) f) ≡ then_effect (rewritten_effect (one_block σ τ c n x (λ m. all_blocks σ τ c m []) f)) (rewritten_effect (all_blocks σ τ c (n + length (one_block σ τ c n x (λ m. all_blocks σ τ c m []) f).fresh) ks)))
          × (((one_block σ τ c n x (λ m. all_blocks σ τ c m ks) f).fault ≡ first_met (one_block σ τ c n x (λ m. all_blocks σ τ c m []) f).fault (all_blocks σ τ c (n + length (one_block σ τ c n x (λ m. all_blocks σ τ c m []) f).fresh) ks).fault)
          × ((one_block σ τ c n x (λ m. all_blocks σ τ c m ks) f).fresh ≡ (one_block σ τ c n x (λ m. all_blocks σ τ c m []) f).fresh ++ (all_blocks σ τ c (n + length (one_block σ τ c n x (λ m. all_blocks σ τ c m []) f).fresh) ks).fresh))
      by_skip true = (simp (append-nil, add-zero, zero-add), (simp (add-zero), simp (add-zero)))
      by_skip false = (simp (append-nil, add-zero), (simp (append-nil, first_none), simp (append-nil)))
