-- "A false result means an unchanged routine", for any choice of builds to fold and blocks to skip.
use Prim.Native.Nat.{ℕ, ◌+◌}
use native.Mathlib.Nat.{add-zero}
use native.Mathlib.Omega.{arith}
use mathlib.Core.Path.{◌≡◌, refl}
use mathlib.Core.List.{List, [], ◌∷◌, ◌++◌, append-nil}
use mathlib.Core.Bool.{Bool, true, false, cond, ◌||◌}
use mathlib.Core.Option.{Option, none, some}
use lib.ListN.{length}
use borrow.Author.Tests.{not-false, eqb-true}
use Rattle.mir.specs.declared.ValueId.{ValueId}
use Rattle.mir.specs.declared.TypeId.{TypeId}
use Rattle.mir.specs.declared.Value.{Value}
use Rattle.mir.specs.Syntax.{Instruction, Terminator, Jump, If, BranchCmp, Return, Unreachable, Block}
use Rattle.mir.specs.Reads.{is_phi}
use Rattle.mir.specs.Routine.{Routine}
use Rattle.fold.specs.declared.Edition.{Edition}
use Rattle.fold.specs.declared.Settings.{Settings}
use Rattle.mir.specs.Lookup.{Types, types_in}
use Rattle.mir.specs.Phis.{behind_phis, phis_of}
use Rattle.rewrite.specs.State.{AggStates, no_states, state_of}
use Rattle.rewrite.specs.declared.Fault.{Fault}
use Rattle.rewrite.specs.Rebuild.{Rebuilt, untouched, keep_value, rebuild_value, one_value, rebuild_all, wanted_returns, return_type}
use Rattle.rewrite.specs.Fault.{full_fault}
use Rattle.rewrite.specs.Readings.{readings}
use Rattle.rewrite.specs.Stays.{any_fresh, kept_behind}
use Rattle.rewrite.specs.Piece.{no_counts, Piece, kept, left, assigned}
use Rattle.rewrite.specs.Run.{Walked, ends, returned, rebuilt_return, finish, glue, walk, Rewritten, Choice, block_then, skip_then, one_block, all_blocks, choice, rewritten_by, rewritten_blocks, rewrite_with, rewrite}
use Rattle.rewrite.proofs.Deep.{Stood, stood}
use Rattle.rewrite.proofs.Made.{MadeFirst, Made, made}
use Rattle.rewrite.proofs.Readings.{own_readings}

-- the walk that changes, counts, drops and takes nothing, and the same of blocks
abbrev pub whole : List Instruction → Terminator → (ℕ → Option Fault) → Walked
whole is t f = record { out = is; terminator = t; dropped = []; fresh = []; counts = no_counts; changed = false; fault = f }

abbrev pub untouched_blocks : List Block → Option Fault → Rewritten
untouched_blocks ks f = record { blocks = ks; dropped = []; fresh = []; counts = no_counts; changed = false; fault = f }

pub or_left : (a b : Bool) → (a || b) ≡ false → a ≡ false
or_left true b e = e
or_left false b e = refl

pub or_right : (a b : Bool) → (a || b) ≡ false → b ≡ false
or_right true b e = let z : ◌≡◌ {A = ℕ} 0 1 = cc in absurd (omega arith)
or_right false b e = e

-- a block is its phis and what stands behind them
pub phis_behind : (is : List Instruction) → phis_of is ++ behind_phis is ≡ is
unfolding phis_of behind_phis
phis_behind [] = refl
phis_behind (i ∷ is) = split (is_phi i.kind) (phis_behind is)
  where
    split : (b : Bool) → phis_of is ++ behind_phis is ≡ is → cond b (i ∷ phis_of is) [] ++ cond b (behind_phis is) (i ∷ is) ≡ i ∷ is
    split true e = rw e
    split false e = refl

-- values of which none was rebuilt are as they were
not_one : (τ : Types) (n : ℕ) (x : Value) (rest : ℕ → Rebuilt) (o : Option TypeId) (s : Option (List Value)) (xs : List Value) → length (one_value τ n x rest o s).fresh ≡ 0 → ((m : ℕ) → length (rest m).fresh ≡ 0 → rest m ≡ untouched xs) → one_value τ n x rest o s ≡ untouched (x ∷ xs)
unfolding one_value keep_value rebuild_value
not_one τ n x rest none s xs e f = rw (f n e)
not_one τ n x rest (some t) none xs e f = rw (f n e)
not_one τ n x rest (some t) (some ys) xs e f = absurd (omega arith)

none_rebuilt : (τ : Types) (S : AggStates) (n : ℕ) (xs : List Value) → length (rebuild_all τ S n (wanted_returns τ xs)).fresh ≡ 0 → rebuild_all τ S n (wanted_returns τ xs) ≡ untouched xs
unfolding rebuild_all wanted_returns
none_rebuilt τ S n [] e = refl
none_rebuilt τ S n (x ∷ xs) e = not_one τ n x _ (return_type τ x) (state_of S x) xs e (λ m. none_rebuilt τ S m xs)

pub return_none : (e : Edition) (τ : Types) (S : AggStates) (n : ℕ) (xs : List Value) → length (rebuilt_return e τ S n xs).fresh ≡ 0 → rebuilt_return e τ S n xs ≡ untouched xs
unfolding rebuilt_return
return_none Edition.First τ S n xs = none_rebuilt τ S n xs
return_none Edition.Second τ S n xs = (stood τ S n xs).none

unchanged_end : (σ : Settings) (τ : Types) (S : AggStates) (n : ℕ) (t : Terminator) → (finish σ τ S n t).changed ≡ false → finish σ τ S n t ≡ whole [] t (finish σ τ S n t).fault
unfolding finish ends returned
unchanged_end σ τ S n (Jump b) e = refl
unchanged_end σ τ S n (If x a b) e = refl
unchanged_end σ τ S n (BranchCmp op x y a b) e = refl
unchanged_end σ τ S n (Return xs) e = rw (return_none σ.edition τ S n xs (eqb-true _ _ (not-false _ e)))
unchanged_end σ τ S n Unreachable e = refl

-- no number, no rebuild: the instruction itself stands behind nothing
pub no_fresh : (ts : List TypeId) → any_fresh ts ≡ false → length ts ≡ 0
unfolding any_fresh
no_fresh [] e = refl
no_fresh (t ∷ ts) e = let z : ◌≡◌ {A = ℕ} 0 1 = cc in absurd (omega arith)

-- an instruction that stays as it is, whatever its fault
abbrev pub alone : AggStates → Instruction → (ℕ → Option Fault) → Piece
alone S i f = record { out = i ∷ []; dropped = []; states = S; fresh = []; counts = no_counts; changed = false; fault = f }

pub behind_none : (S : AggStates) (n : ℕ) (i : Instruction) (r : Rebuilt) → Stood n (readings i.kind) r → any_fresh r.fresh ≡ false → kept_behind S i r ≡ alone S i (kept_behind S i r).fault
unfolding kept_behind any_fresh
behind_none S n i r h e = rw (h.none (no_fresh r.fresh e), own_readings i.kind)

-- what comes behind a piece changed nothing
abbrev Rests : AggStates → ℕ → (AggStates → ℕ → Walked) → List Instruction → Terminator → Type 0
Rests S n rest is t = (rest S n).changed ≡ false → rest S n ≡ whole is t (rest S n).fault

unchanged_alone : (S : AggStates) (n : ℕ) (i : Instruction) (f : ℕ → Option Fault) (rest : AggStates → ℕ → Walked) (is : List Instruction) (t : Terminator) → Rests S n rest is t → let w = glue (alone S i f) (rest S (n + 0)) in w.changed ≡ false → w ≡ whole (i ∷ is) t w.fault
unfolding glue
unchanged_alone S n i f rest is t h e = rw (add-zero n) (rw (h (rw (add-zero n) at e)))

-- the instruction behind what it was rebuilt from, in front of others
unchanged_behind : (S : AggStates) (n : ℕ) (i : Instruction) (r : Rebuilt) → Stood n (readings i.kind) r → (rest : AggStates → ℕ → Walked) (is : List Instruction) (t : Terminator) → Rests S n rest is t → any_fresh r.fresh ≡ false → let w = glue (kept_behind S i r) (rest S (n + length (kept_behind S i r).fresh)) in w.changed ≡ false → w ≡ whole (i ∷ is) t w.fault
unchanged_behind S n i r h rest is t f c e = rw (behind_none S n i r h c) (unchanged_alone S n i (kept_behind S i r).fault rest is t f (rw (behind_none S n i r h c) at e))

-- a piece of edition 1 that changed nothing is its instruction kept
unchanged_first : (S : AggStates) (n : ℕ) (i : Instruction) (p : Piece) (k : ℕ) → MadeFirst S n i p k → (rest : AggStates → ℕ → Walked) (is : List Instruction) (t : Terminator) → Rests S n rest is t → let w = glue p (rest p.states (n + length p.fresh)) in w.changed ≡ false → w ≡ whole (i ∷ is) t w.fault
unfolding glue kept left assigned
unchanged_first S n i p k MadeFirst.as_kept rest is t f e = unchanged_alone S n i full_fault rest is t f e
unchanged_first S n i p k (MadeFirst.as_left c S' l) rest is t f e = let z : ◌≡◌ {A = ℕ} 0 1 = cc in absurd (omega arith)
unchanged_first S n i p k (MadeFirst.as_assigned c s) rest is t f e = let z : ◌≡◌ {A = ℕ} 0 1 = cc in absurd (omega arith)
unchanged_first S n i p k (MadeFirst.as_called a rs g ps qs ts h r) rest is t f e = let z : ◌≡◌ {A = ℕ} 0 1 = cc in absurd (omega arith)
unchanged_first S n i p k (MadeFirst.as_stored a q u ts h r) rest is t f e = let z : ◌≡◌ {A = ℕ} 0 1 = cc in absurd (omega arith)

-- so is any
unchanged_piece : (S : AggStates) (n : ℕ) (i : Instruction) (p : Piece) (k : ℕ) → Made S n i p k → (rest : AggStates → ℕ → Walked) (is : List Instruction) (t : Terminator) → Rests S n rest is t → let w = glue p (rest p.states (n + length p.fresh)) in w.changed ≡ false → w ≡ whole (i ∷ is) t w.fault
unfolding glue kept_behind
unchanged_piece S n i p k (Made.in_first m) rest is t f e = unchanged_first S n i p k m rest is t f e
unchanged_piece S n i p k (Made.as_behind j r h) rest is t f e = unchanged_behind S n j r h rest is t f (or_left (any_fresh r.fresh) (rest S (n + length r.fresh)).changed e) e

-- so is a walk, from any states
pub unchanged_walk : (σ : Settings) (τ : Types) (folds : ValueId → Bool) (S : AggStates) (n : ℕ) (is : List Instruction) (t : Terminator) → (walk σ τ folds S n is t).changed ≡ false → walk σ τ folds S n is t ≡ whole is t (walk σ τ folds S n is t).fault
unfolding walk
unchanged_walk σ τ folds S n [] t e = unchanged_end σ τ S n t e
unchanged_walk σ τ folds S n (i ∷ is) t e = unchanged_piece S n i _ _ (made σ τ folds S n i) (λ S m. walk σ τ folds S m is t) is t (unchanged_walk σ τ folds S n is t) e

-- a walked block in front of others
unchanged_then : (k : Block) (ks : List Block) (w : Walked) (n : ℕ) (rest : ℕ → Rewritten) → (w.changed ≡ false → w ≡ whole
    (behind_phis k.instructions) k.terminator w.fault) → ((rest n).changed ≡ false → rest n ≡ untouched_blocks ks (rest n).fault)
    → let r = block_then (phis_of k.instructions) w (rest (n + length w.fresh)) in r.changed ≡ false → r ≡ untouched_blocks (k ∷ ks) r.fault
unfolding block_then
unchanged_then k ks w n rest g f e =
    let a : w ≡ whole (behind_phis k.instructions) k.terminator w.fault = g (or_left w.changed (rest (n + length w.fresh)).changed e) in
    let b : (rest (n + length w.fresh)).changed ≡ false = or_right w.changed (rest (n + length w.fresh)).changed e in
    let c : length w.fresh ≡ 0 = rw a in
    rw (c, add-zero n) (rw (f (rw (c, add-zero n) at b)) (rw a (rw (phis_behind k.instructions))))

module _ (σ : Settings) (τ : Types) (c : Choice) where
  unchanged_block : (n : ℕ) (k : Block) (ks : List Block) (rest : ℕ → Rewritten) (b : Bool) → ((rest n).changed ≡ false → rest n ≡ untouched_blocks ks (rest n).fault) → (one_block σ τ c n k rest b).changed ≡ false → one_block σ τ c n k rest b ≡ untouched_blocks (k ∷ ks) (one_block σ τ c n k rest b).fault
  unfolding one_block skip_then
  unchanged_block n k ks rest true f e = rw (f e)
  unchanged_block n k ks rest false f e = unchanged_then k ks _ n rest (unchanged_walk σ τ (c.folds k) no_states n (behind_phis k.instructions) k.terminator) f e

  -- blocks of which none was changed are the blocks: nothing was counted, dropped or taken
  pub unchanged_blocks : (n : ℕ) (ks : List Block) → (all_blocks σ τ c n ks).changed ≡ false → all_blocks σ τ c n ks ≡ untouched_blocks ks (all_blocks σ τ c n ks).fault
  unfolding all_blocks
  unchanged_blocks n [] e = refl
  unchanged_blocks n (k ∷ ks) e = unchanged_block n k ks _ (c.skips k) (unchanged_blocks n ks) e

-- a result of false leaves the routine as it was
unchanged_with : (w : Rewritten) (r : Routine) → w ≡ untouched_blocks r.blocks w.fault → rewrite_with w r ≡ r
unfolding rewrite_with
unchanged_with w r e = rw (e, add-zero, append-nil)

-- so of any choice
pub unchanged_by : (σ : Settings) (c : Choice) (r : Routine) → (rewritten_by σ c r).changed ≡ false → rewrite_with (rewritten_by σ c r) r ≡ r
unfolding rewritten_by
unchanged_by σ c r e = unchanged_with _ r (unchanged_blocks σ (types_in r) c r.next r.blocks e)

-- "a false result means an unchanged routine"
pub unchanged : (σ : Settings) (r : Routine) → (rewritten_blocks σ r).changed ≡ false → rewrite σ r ≡ r
unfolding rewritten_blocks rewrite
unchanged σ r = unchanged_by σ (choice σ r) r
