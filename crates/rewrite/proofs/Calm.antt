-- A routine of which nothing changes has no fault.
use Prim.Native.Nat.{ℕ, suc, ◌+◌, ◌≤◌}
use native.Mathlib.Omega.{arith}
use mathlib.Core.Path.{◌≡◌, refl, ap}
use mathlib.Core.List.{List, [], ◌∷◌, ◌++◌}
use mathlib.Core.Bool.{Bool, true, false}
use mathlib.Core.Option.{Option, none}
use lib.ListN.{length, length-append}
use borrow.Author.Tests.{lt-ltb, not-false, eqb-true}
use Rattle.mir.specs.declared.ValueId.{ValueId}
use Rattle.mir.specs.Syntax.{Instruction, Terminator, Jump, If, BranchCmp, Return, Unreachable, Block}
use Rattle.mir.specs.Routine.{Routine}
use Rattle.mir.specs.Lists.{Each}
use Rattle.mir.specs.Lookup.{Types, types_in}
use Rattle.mir.specs.Phis.{behind_phis, phis_of}
use Rattle.fold.specs.declared.Settings.{Settings}
use Rattle.rewrite.specs.declared.Fault.{Fault}
use Rattle.rewrite.specs.State.{AggStates, no_states}
use Rattle.rewrite.specs.Fault.{first_met, full_fault, last_number}
use Rattle.rewrite.specs.Rebuild.{Rebuilt, untouched}
use Rattle.rewrite.specs.Readings.{readings}
use Rattle.rewrite.specs.Piece.{Piece, kept, left, assigned}
use Rattle.rewrite.specs.Stays.{any_fresh, kept_behind}
use Rattle.rewrite.specs.Step.{step}
use Rattle.rewrite.specs.Run.{ends, returned, finish, glue, Walked, walk, Rewritten, Choice, block_then, skip_then, one_block, all_blocks, choice, rewritten_by, rewritten_blocks}
use Rattle.rewrite.proofs.Deep.{Stood}
use Rattle.rewrite.proofs.Made.{MadeFirst, Made, made}
use Rattle.rewrite.proofs.Unchanged.{phis_behind, return_none, no_fresh, or_left, or_right}
use Rattle.rewrite.proofs.Limits.{Short}

-- below the last number there is room for one more
pub full_below : (n : ℕ) → suc n ≤ last_number → full_fault n ≡ none
unfolding full_fault
full_below n h = rw (lt-ltb n last_number h)

-- neither of two is met
pub met_none : (a b : Option Fault) → a ≡ none → b ≡ none → first_met a b ≡ none
unfolding first_met
met_none a b e f = rw (e, f)

calm_end : (σ : Settings) (τ : Types) (S : AggStates) (n : ℕ) (t : Terminator) → (finish σ τ S n t).changed ≡ false → (l : ℕ) → (finish σ τ S n t).fault l ≡ none
unfolding finish ends returned
calm_end σ τ S n (Jump b) e l = refl
calm_end σ τ S n (If x a b) e l = refl
calm_end σ τ S n (BranchCmp op x y a b) e l = refl
calm_end σ τ S n (Return xs) e l = rw (return_none σ.edition τ S n xs (eqb-true _ _ (not-false _ e)))
calm_end σ τ S n Unreachable e l = refl

-- what is known of the rest behind one instruction more
abbrev Calm : Walked → ℕ → Type 0
Calm w many = (l : ℕ) → l + many ≤ last_number → w.changed ≡ false → w.fault l ≡ none

calm_first : (S : AggStates) (n : ℕ) (i : Instruction) (p : Piece) (k : ℕ) → MadeFirst S n i p k → (rest : AggStates → ℕ → Walked) (many : ℕ) → Calm (rest p.states (n + length p.fresh)) many → Calm (glue p (rest p.states (n + length p.fresh))) (suc many)
unfolding glue kept left assigned
calm_first S n i p k MadeFirst.as_kept rest many f l h e = met_none _ _ (full_below l (omega (arith, h))) (f _ (omega (arith, h)) e)
calm_first S n i p k (MadeFirst.as_left c S' v) rest many f l h e = let z : ◌≡◌ {A = ℕ} 0 1 = cc (e) in absurd (omega (arith, z))
calm_first S n i p k (MadeFirst.as_assigned c s) rest many f l h e = let z : ◌≡◌ {A = ℕ} 0 1 = cc (e) in absurd (omega (arith, z))
calm_first S n i p k (MadeFirst.as_called a rs g ps qs ts b r) rest many f l h e = let z : ◌≡◌ {A = ℕ} 0 1 = cc (e) in absurd (omega (arith, z))
calm_first S n i p k (MadeFirst.as_stored a q u ts b r) rest many f l h e = let z : ◌≡◌ {A = ℕ} 0 1 = cc (e) in absurd (omega (arith, z))

calm_behind : (S : AggStates) (n : ℕ) (i : Instruction) (r : Rebuilt) → Stood n (readings i.kind) r → (rest : AggStates → ℕ → Walked) (many : ℕ) → Calm (rest S (n + length r.fresh)) many → Calm (glue (kept_behind S i r) (rest S (n + length r.fresh))) (suc many)
unfolding glue kept_behind
calm_behind S n i r s rest many f l h e =
    let c : r ≡ untouched (readings i.kind) = s.none (no_fresh r.fresh (or_left _ _ e)) in
    let a : r.fault l ≡ none = rw c in
    let b : length r.before ≡ 0 = rw c in
    let d : suc (l + length r.before) ≤ last_number = omega (arith, h, b) in
    let g : l + length (r.before ++ (record { meta = i.meta; kind = i.kind } ∷ [])) + many ≤ last_number = rw length-append (omega (arith, h, b)) in
    met_none _ _ (met_none _ _ a (full_below _ d)) (f _ (rw length-append (omega (arith, h, b))) (or_right (any_fresh r.fresh) _ e))

calm_piece : (S : AggStates) (n : ℕ) (i : Instruction) (p : Piece) (k : ℕ) → Made S n i p k → (rest : AggStates → ℕ → Walked) (many : ℕ) → Calm (rest p.states (n + length p.fresh)) many → Calm (glue p (rest p.states (n + length p.fresh))) (suc many)
unfolding kept_behind
calm_piece S n i p k (Made.in_first m) rest many f = calm_first S n i p k m rest many f
calm_piece S n i p k (Made.as_behind j r s) rest many f = calm_behind S n j r s rest many f

calm_walk : (σ : Settings) (τ : Types) (folds : ValueId → Bool) (S : AggStates) (n : ℕ) (is : List Instruction) (t : Terminator) → Calm (walk σ τ folds S n is t) (length is)
unfolding walk
calm_walk σ τ folds S n [] t = λ l h e. calm_end σ τ S n t e l
calm_walk σ τ folds S n (i ∷ is) t =
    let p = step σ τ folds S n i in
    calm_piece S n i _ _ (made σ τ folds S n i) (λ S m. walk σ τ folds S m is t) (length is) (calm_walk σ τ folds p.states (n + length p.fresh) is t)

module _ (σ : Settings) (τ : Types) (c : Choice) where
  calm_block : (n : ℕ) (k : Block) (rest : ℕ → Rewritten) (b : Bool) → Short k → ((m : ℕ) → (rest m).changed ≡ false → (rest m).fault ≡ none) → (one_block σ τ c n k rest b).changed ≡ false → (one_block σ τ c n k rest b).fault ≡ none
  unfolding one_block skip_then block_then
  calm_block n k rest true h f e = f n e
  calm_block n k rest false h f e =
      let is = behind_phis k.instructions in
      let a : length (phis_of k.instructions) + length is ≤ last_number = omega (arith, h, length-append (phis_of k.instructions) is, ap length (phis_behind k.instructions)) in
      met_none _ _ (calm_walk σ τ (c.folds k) no_states n is k.terminator _ a (or_left _ _ e)) (f _ (or_right _ _ e))

  pub calm_blocks : (n : ℕ) (ks : List Block) → Each Short ks → (all_blocks σ τ c n ks).changed ≡ false → (all_blocks σ τ c n ks).fault ≡ none
  unfolding all_blocks
  calm_blocks n [] h e = refl
  calm_blocks n (k ∷ ks) h e = calm_block n k _ (c.skips k) h.0 (λ m. calm_blocks m ks h.1) e

-- a routine of which nothing changes is not refused
pub calm : (σ : Settings) (r : Routine) → Each Short r.blocks → (rewritten_blocks σ r).changed ≡ false → (rewritten_blocks σ r).fault ≡ none
unfolding rewritten_blocks rewritten_by
calm σ r = calm_blocks σ (types_in r) (choice σ r) r.next r.blocks
