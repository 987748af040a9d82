-- The numbers a rewriting takes, and what stays of a routine besides its blocks.
use Prim.Native.Nat.{ℕ, suc, ◌+◌, ◌*◌, ◌≤◌, ◌<◌}
use native.Mathlib.Omega.{arith}
use mathlib.Core.Path.{◌≡◌, refl, ap}
use mathlib.Core.List.{List, [], ◌∷◌, ◌++◌, map}
use mathlib.Core.Bool.{Bool, true, false, cond}
use mathlib.Core.Option.{none, some}
use lib.ListN.{length, get_or, length-append, length-map, get_or-append}
use lib.Seq.{get_or-append-add}
use Rattle.mir.specs.declared.ValueId.{ValueId}
use Rattle.mir.specs.declared.TypeId.{TypeId}
use Rattle.mir.specs.Syntax.{Instruction, Terminator, Jump, If, BranchCmp, Return, Unreachable, Block}
use Rattle.mir.specs.Reads.{is_phi}
use Rattle.mir.specs.Routine.{Routine}
use Rattle.fold.specs.declared.Edition.{Edition}
use Rattle.fold.specs.declared.Settings.{Settings}
use Rattle.mir.specs.Lookup.{Types, types_in}
use Rattle.mir.specs.Phis.{behind_phis, phis_of}
use Rattle.rewrite.specs.State.{AggStates, no_states}
use Rattle.rewrite.specs.Piece.{Piece, kept, left, assigned}
use Rattle.rewrite.specs.Step.{step}
use Rattle.rewrite.specs.Run.{ends, returned, rebuilt_return, finish, glue, walk, Rewritten, Choice, block_then, skip_then, one_block, all_blocks, choice, rewritten_by, rewritten_blocks, rewrite_with, rewrite}
use Rattle.rewrite.specs.Sum.{instruction_count}
use Rattle.rewrite.specs.Within.{argument_count, return_count, CallsWithin, ListsWithin}
use Rattle.rewrite.proofs.Steps.{rebuilds_returns, taken_most}
use Rattle.rewrite.proofs.Made.{MadeFirst, made_in_first}
use Rattle.rewrite.proofs.Unchanged.{phis_behind}

-- ## The next value

-- an instruction takes at most 16 numbers
pub bound_piece : (S : AggStates) (n : ℕ) (i : Instruction) (p : Piece) (k : ℕ) → MadeFirst S n i p k → argument_count i.kind ≤ 16 → length p.fresh ≤ 16
unfolding kept left assigned argument_count
bound_piece S n i p k MadeFirst.as_kept h = omega arith
bound_piece S n i p k (MadeFirst.as_left c S' v) h = omega arith
bound_piece S n i p k (MadeFirst.as_assigned c s) h = omega arith
bound_piece S n i p k (MadeFirst.as_called a rs f ps qs ts b r) h = omega (arith, taken_most r)
bound_piece S n i p k (MadeFirst.as_stored a q u ts b r) h = omega (arith, taken_most r)

-- and so does a terminator
bound_end : (σ : Settings) → σ.edition ≡ Edition.First → (τ : Types) (S : AggStates) (n : ℕ) (t : Terminator) → return_count t ≤ 16 → length (finish σ τ S n t).fresh ≤ 16
unfolding finish ends returned rebuilt_return return_count
bound_end σ e τ S n (Jump b) h = omega arith
bound_end σ e τ S n (If x a b) h = omega arith
bound_end σ e τ S n (BranchCmp op x y a b) h = omega arith
bound_end σ e τ S n (Return xs) h = rw e (omega (arith, taken_most (rebuilds_returns τ S n xs)))
bound_end σ e τ S n Unreachable h = omega arith

bound_both : (ts us : List TypeId) (x : ℕ) → length ts ≤ 16 → length us ≤ 16 * x + 16 → length (ts ++ us) ≤ 16 * suc x + 16
bound_both ts us x h g = rw length-append (omega arith)

pub bound_walk : (σ : Settings) → σ.edition ≡ Edition.First → (τ : Types) (folds : ValueId → Bool) (S : AggStates) (n : ℕ) (is : List Instruction) (t : Terminator) → CallsWithin 16 is → return_count t ≤ 16 → length (walk σ τ folds S n is t).fresh ≤ 16 * length is + 16
unfolding walk glue
bound_walk σ e τ folds S n [] t h g = omega (arith, bound_end σ e τ S n t g)
bound_walk σ e τ folds S n (i ∷ is) t h g = let p = step σ τ folds S n i in bound_both p.fresh (walk σ τ folds p.states (n + length p.fresh) is t).fresh (length is) (bound_piece S n i _ _ (made_in_first σ τ folds S n i e) h.0) (bound_walk σ e τ folds p.states (n + length p.fresh) is t h.1 g)

pub behind_within : (is : List Instruction) → CallsWithin 16 is → CallsWithin 16 (behind_phis is)
unfolding behind_phis
behind_within [] h = tt
behind_within (i ∷ is) h = split (is_phi i.kind) h (behind_within is h.1)
  where
    split : (b : Bool) → CallsWithin 16 (i ∷ is) → CallsWithin 16 (behind_phis is) → CallsWithin 16 (cond b (behind_phis is) (i ∷ is))
    split true h g = g
    split false h g = h

bound_parts : (ps is all : List Instruction) (ts us : List TypeId) (x y : ℕ) → ps ++ is ≡ all → length ts ≤ 16 * length is + 16 → length us ≤ 16 * x + 16 * y → length (ts ++ us) ≤ 16 * (length all + x) + 16 * suc y
bound_parts ps is all ts us x y e h g = rw length-append (omega (arith, length-append ps is, ap length e))

-- "the bound of 4,864 on the next value belongs to edition 1"
module _ (σ : Settings) (ed : σ.edition ≡ Edition.First) (τ : Types) (c : Choice) where
  bound_block : (n : ℕ) (k : Block) (ks : List Block) (rest : ℕ → Rewritten) (b : Bool) → CallsWithin 16 k.instructions → return_count k.terminator ≤ 16 → ((m : ℕ) → length (rest m).fresh ≤ 16 * instruction_count ks + 16 * length ks) → length (one_block σ τ c n k rest b).fresh ≤ 16 * instruction_count (k ∷ ks) + 16 * length (k ∷ ks)
  unfolding one_block skip_then block_then instruction_count
  bound_block n k ks rest true h g f = omega (arith, f n)
  bound_block n k ks rest false h g f =
      let w = walk σ τ (c.folds k) no_states n (behind_phis k.instructions) k.terminator in
      bound_parts (phis_of k.instructions) (behind_phis k.instructions) k.instructions w.fresh (rest (n + length w.fresh)).fresh (instruction_count ks) (length ks) (phis_behind k.instructions) (bound_walk σ ed τ (c.folds k) no_states n (behind_phis k.instructions) k.terminator (behind_within k.instructions h) g) (f _)

  -- 16 numbers for each instruction and each block
  pub bound_blocks : (n : ℕ) (ks : List Block) → ListsWithin 16 ks → length (all_blocks σ τ c n ks).fresh ≤ 16 * instruction_count ks + 16 * length ks
  unfolding all_blocks
  bound_blocks n [] h = omega arith
  bound_blocks n (k ∷ ks) h = bound_block n k ks _ (c.skips k) h.0 h.1 (λ m. bound_blocks m ks h.2)

bound_with : (w : Rewritten) (r : Routine) → length w.fresh ≤ 16 * instruction_count r.blocks + 16 * length r.blocks → instruction_count r.blocks ≤ 256 → length r.blocks ≤ 32 → r.next ≤ 256 → (rewrite_with w r).next ≤ 4864
unfolding rewrite_with
bound_with w r h a b d = omega arith

-- within the mosts, by any choice
pub next_bound_by : (σ : Settings) → σ.edition ≡ Edition.First → (c : Choice) (r : Routine) → instruction_count r.blocks ≤ 256 → length r.blocks ≤ 32 → ListsWithin 16 r.blocks → r.next ≤ 256 → (rewrite_with (rewritten_by σ c r) r).next ≤ 4864
unfolding rewritten_by
next_bound_by σ ed c r a b h d = bound_with _ r (bound_blocks σ ed (types_in r) c r.next r.blocks h) a b d

-- "the output may pass these; its next value is at most 4,864"
pub next_bound : (σ : Settings) → σ.edition ≡ Edition.First → (r : Routine) → instruction_count r.blocks ≤ 256 → length r.blocks ≤ 32 → ListsWithin 16 r.blocks → r.next ≤ 256 → (rewrite σ r).next ≤ 4864
unfolding rewrite rewritten_blocks
next_bound σ ed r = next_bound_by σ ed (choice σ r) r

-- ## What stays

-- "values left out keep their recorded types", and so does every value there was
pub kept_types_by : (w : Rewritten) (r : Routine) (v : ℕ) → v < length r.recorded → get_or (rewrite_with w r).recorded v none ≡ get_or r.recorded v none
unfolding rewrite_with
kept_types_by w r v h = get_or-append r.recorded (map some w.fresh) none v h

-- so of the Rust's choice
pub kept_types : (σ : Settings) (r : Routine) (v : ℕ) → v < length r.recorded → get_or (rewrite σ r).recorded v none ≡ get_or r.recorded v none
unfolding rewrite
kept_types σ r v h = kept_types_by (rewritten_blocks σ r) r v h

-- "a rebuilt value takes the next value number, which rises by one, and its type is recorded"
pub fresh_types : (w : Rewritten) (r : Routine) (k : ℕ) → get_or (rewrite_with w r).recorded (length r.recorded + k) none ≡ get_or (map some w.fresh) k none
unfolding rewrite_with
fresh_types w r k = get_or-append-add r.recorded (map some w.fresh) k none

-- each value below the next one has its place in the table, still
pub recorded_length_by : (w : Rewritten) (r : Routine) → length r.recorded ≡ r.next → length (rewrite_with w r).recorded ≡ (rewrite_with w r).next
unfolding rewrite_with
recorded_length_by w r e = rw (length-append, length-map, e)

-- so of the Rust's choice
pub recorded_length : (σ : Settings) (r : Routine) → length r.recorded ≡ r.next → length (rewrite σ r).recorded ≡ (rewrite σ r).next
unfolding rewrite
recorded_length σ r e = recorded_length_by (rewritten_blocks σ r) r e

-- types, entry and parameters are not touched
pub kept_rest : (σ : Settings) (r : Routine) → ((rewrite σ r).types ≡ r.types) × ((rewrite σ r).entry ≡ r.entry) × ((rewrite σ r).parameters ≡ r.parameters)
unfolding rewrite rewrite_with
kept_rest σ r = (refl, refl, refl)

-- and there are as many blocks as before
module _ (σ : Settings) (τ : Types) (c : Choice) where
  count_block : (n : ℕ) (k : Block) (ks : List Block) (rest : ℕ → Rewritten) (b : Bool) → ((m : ℕ) → length (rest m).blocks ≡ length ks) → length (one_block σ τ c n k rest b).blocks ≡ length (k ∷ ks)
  unfolding one_block skip_then block_then
  count_block n k ks rest true f = rw (f n)
  count_block n k ks rest false f = ap suc (f _)

  -- skipped or walked, a block gives a block
  pub block_count : (n : ℕ) (ks : List Block) → length (all_blocks σ τ c n ks).blocks ≡ length ks
  unfolding all_blocks
  block_count n [] = refl
  block_count n (k ∷ ks) = count_block n k ks _ (c.skips k) (λ m. block_count m ks)
