-- A walk puts out in order what stands in order, and so all blocks come out, for any choice.
use Prim.Native.Nat.{ℕ, ◌+◌, ◌≤◌}
use mathlib.Core.Bool.{Bool, true, false, not, ◌&&◌}
use mathlib.Core.List.{List, [], ◌∷◌, ◌++◌}
use native.Mathlib.Omega.{arith}
use lib.Dec.{T, ltb}
use lib.ListN.{length}
use Rattle.mir.specs.declared.ValueId.{ValueId}
use Rattle.mir.specs.declared.Value.{Value}
use Rattle.mir.specs.Syntax.{Instruction, Block, Terminator, Jump, If, BranchCmp, Return, Unreachable}
use Rattle.mir.specs.Lookup.{Types}
use Rattle.mir.specs.Phis.{behind_phis, phis_of}
use Rattle.fold.specs.declared.Edition.{Edition}
use Rattle.fold.specs.declared.Settings.{Settings}
use Rattle.rewrite.specs.State.{AggStates, no_states}
use Rattle.rewrite.specs.Rebuild.{wanted_returns}
use Rattle.rewrite.specs.Deep.{wanted_own}
use Rattle.rewrite.specs.Run.{rebuilt_return, walk, Rewritten, Choice, block_then, skip_then, one_block, all_blocks, ends, returned, finish}
use Rattle.shelf.specs.Lists.{every, among}
use Rattle.shelf.specs.Reads.{defined_in, ordered, counted_reads}
use Rattle.machine_simulation.specs.Static.{below, no_phi}
use Rattle.machine_simulation.proofs.Tools.{both_l, both_r, both}
use Rattle.machine_simulation.proofs.Phis.{below_behind}
use Rattle.machine_simulation.proofs.NoPhi.{walk_no_phi}
use Rattle.mir.specs.Reads.{reads}
use Rattle.rewrite.specs.Step.{step}
use Rattle.shelf.proofs.Flag.{counted_of}
use Rattle.machine_simulation.proofs.Invariant.{once_later}
use Rattle.pass_lasting.proofs.Vocabulary.{AllParts, early, Calm, none}
use Rattle.pass_lasting.proofs.Parts.{step_parts, parts_weaken, none_parts}
use Rattle.pass_lasting.proofs.Arms.{shown}
use Rattle.pass_lasting.proofs.Calm.{rebuilt_calm, deep_calm}
use Rattle.pass_lasting.proofs.StepOrder.{step_order_of}
use Rattle.pass_lasting.proofs.Order.{Orderly, every_both, below_defined, orderly_piece, calm_orderly, block_ordered}

-- with a test that all pass
any_test : (S : AggStates) (low : ℕ) → AllParts (λ v. ltb v low) S → AllParts (λ v. ltb v low && true) S
any_test S low h = parts_weaken (λ v. ltb v low) (λ v. ltb v low && true) (λ v t. both (ltb v low) true t tt) S h

-- the rebuilds of a Return, in either edition
return_calm : (e : Edition) (τ : Types) (S : AggStates) (low n : ℕ) (xs : List Value) → AllParts (λ v. ltb v low) S → low ≤ n
    → Calm (λ v. true) n (rebuilt_return e τ S n xs).before (n + length (rebuilt_return e τ S n xs).fresh)
unfolding rebuilt_return
return_calm Edition.First τ S low n xs h le =
    (rebuilt_calm τ S (λ v. true) low (λ v l. tt) (any_test S low h) (wanted_returns τ xs) n le).before
return_calm Edition.Second τ S low n xs h le =
    (deep_calm τ S (λ v. true) low (λ v l. tt) (any_test S low h) (wanted_own τ xs) n le).before

-- ---- the walk

module _ (debug : Bool) (σ : Settings) (τ : Types) (φ : ValueId → Bool) where
  -- before a terminator
  finish_orderly : (S : AggStates) (low n : ℕ) (t : Terminator) → low ≤ n → AllParts (λ v. ltb v low) S → Orderly debug n [] (finish σ τ S n t).out
  unfolding finish ends returned
  finish_orderly S low n (Jump b) le h = calm_orderly debug (λ v. true) n n [] none
  finish_orderly S low n (If x a b) le h = calm_orderly debug (λ v. true) n n [] none
  finish_orderly S low n (BranchCmp op x y a b) le h = calm_orderly debug (λ v. true) n n [] none
  finish_orderly S low n (Return xs) le h =
      calm_orderly debug (λ v. true) n _ (rebuilt_return σ.edition τ S n xs).before (return_calm σ.edition τ S low n xs h le)
  finish_orderly S low n Unreachable le h = calm_orderly debug (λ v. true) n n [] none

  -- a walk puts out in order what stands in order
  pub walk_ordered : (S : AggStates) (low n : ℕ) (is : List Instruction) (t : Terminator) → low ≤ n
      → AllParts (λ v. ltb v low && not (among v (defined_in is))) S → T (below low is) → T (ordered debug is)
      → Orderly debug n is (walk σ τ φ S n is t).out
  unfolding walk ordered below
  walk_ordered S low n [] t le h b o =
      finish_orderly S low n t le
      (parts_weaken (λ v. ltb v low && not (among v (defined_in []))) (λ v. ltb v low) (λ v. both_l (ltb v low) (not (among v (defined_in [])))) S h)
  walk_ordered S low n (i ∷ is) t le h b o =
      let q : ℕ → Bool = λ v. not (among v (defined_in (i ∷ is))) in
      let p = step σ τ φ S n i in
      let lr : T (every (λ v. ltb v.0 low) (reads i.kind)) = search (both_l) in
      let lb : T (below low is) = search (both_l, both_r) in
      let qr : T (every (λ v. q v.0) (counted_reads debug i.kind)) = both_l (every (λ v. q v.0) (counted_reads debug i.kind)) (ordered debug is) o in
      let early_reads : T (every (early q low) (counted_reads debug i.kind)) =
      every_both (λ v. ltb v.0 low) (λ v. q v.0) (counted_reads debug i.kind) (counted_of (λ v. ltb v.0 low) debug i.kind lr) qr in
      orderly_piece debug n i is p (walk σ τ φ p.states (n + length p.fresh) is t)
      (step_order_of debug σ τ S q low (λ v l. below_defined low (i ∷ is) v b l) h n le i early_reads p (shown σ τ φ S n i))
      (walk_ordered p.states low (n + length p.fresh) is t (omega (arith, le))
      (parts_weaken (λ v. ltb v low && q v) (λ v. ltb v low && not (among v (defined_in is)))
      (λ v e. both (ltb v low) (not (among v (defined_in is))) (both_l (ltb v low) (q v) e) (once_later i is v (both_r (ltb v low) (q v) e))) p.states
      (step_parts σ τ φ (λ v. ltb v low && q v) debug S n i h early_reads))
      lb (both_r (every (λ v. q v.0) (counted_reads debug i.kind)) (ordered debug is) o))

-- ---- blocks

-- what is known of a block
pub record OrderedBlock (debug : Bool) (low : ℕ) (k : Block) : Type 0 where
  pub lows : T (below low k.instructions)
  pub phis_first : T (no_phi (behind_phis k.instructions))
  pub ordered : T (ordered debug (behind_phis k.instructions))

-- of each of them
abbrev pub OrderedBlocks : Bool → ℕ → List Block → Type 0
OrderedBlocks debug low [] = Unit {0}
OrderedBlocks debug low (k ∷ ks) = OrderedBlock debug low k × OrderedBlocks debug low ks

-- a block's test of reason 2
abbrev pub in_place : Bool → Block → Bool
in_place debug k = ordered debug (behind_phis k.instructions)

module _ (debug : Bool) (σ : Settings) (τ : Types) (c : Choice) (low : ℕ) where
  -- a block that is walked, its phis untouched
  walked_ordered : (n : ℕ) (k : Block) → low ≤ n → OrderedBlock debug low k
      → let w = walk σ τ (c.folds k) no_states n (behind_phis k.instructions) k.terminator in
      T (in_place debug (record { instructions = phis_of k.instructions ++ w.out; terminator = w.terminator }))
  walked_ordered n k le h =
      let is = behind_phis k.instructions in
      let w = walk σ τ (c.folds k) no_states n is k.terminator in
      block_ordered debug k w (walk_no_phi σ τ (c.folds k) no_states n is k.terminator h.phis_first)
      (walk_ordered debug σ τ (c.folds k) no_states low n is k.terminator le (none_parts (λ v. ltb v low && not (among v (defined_in is))))
      (below_behind low k.instructions h.lows) h.ordered).ordered

  -- one block, skipped or walked, in front of others
  block_in_place : (n : ℕ) (k : Block) (rest : ℕ → Rewritten) → low ≤ n → OrderedBlock debug low k
      → ((j : ℕ) → low ≤ j → T (every (in_place debug) (rest j).blocks)) → (s : Bool)
      → T (every (in_place debug) (one_block σ τ c n k rest s).blocks)
  unfolding one_block skip_then block_then
  block_in_place n k rest le h f true = both (in_place debug k) _ h.ordered (f n le)
  block_in_place n k rest le h f false = both _ _ (walked_ordered n k le h) (f _ (omega (arith, le)))

  -- all blocks
  pub blocks_ordered : (ks : List Block) → OrderedBlocks debug low ks → (n : ℕ) → low ≤ n → T (every (in_place debug) (all_blocks σ τ c n ks).blocks)
  unfolding all_blocks
  blocks_ordered [] h n le = tt
  blocks_ordered (k ∷ ks) h n le = block_in_place n k (λ j. all_blocks σ τ c j ks) le h.0 (blocks_ordered ks h.1) (c.skips k)
