-- "Every output instruction is an input instruction kept or rewritten, in order, or a rebuild directly before what
-- needs it: output plus left out equals input plus rebuilt", for any choice of builds to fold and blocks to skip.
use Prim.Native.Nat.{ℕ, suc, ◌+◌}
use native.Mathlib.Nat.{add-zero, add_assoc}
use native.Mathlib.Omega.{arith}
use mathlib.Core.Path.{◌≡◌, refl, ap}
use mathlib.Core.List.{List, [], ◌∷◌, ◌++◌, append_assoc}
use mathlib.Core.Bool.{Bool, true, false}
use lib.ListN.{length, length-append}
use Rattle.mir.specs.declared.ValueId.{ValueId}
use Rattle.mir.specs.Syntax.{Instruction, Terminator, Jump, If, BranchCmp, Return, Unreachable, Block}
use Rattle.mir.specs.Routine.{Routine}
use Rattle.mir.specs.declared.Value.{Value}
use Rattle.fold.specs.declared.Edition.{Edition}
use Rattle.fold.specs.declared.Settings.{Settings}
use Rattle.mir.specs.Lookup.{Types, types_in}
use Rattle.mir.specs.Phis.{behind_phis, phis_of}
use Rattle.rewrite.specs.State.{AggStates, no_states}
use Rattle.rewrite.specs.Piece.{Piece, kept, left, assigned}
use Rattle.rewrite.specs.Stays.{kept_behind}
use Rattle.rewrite.specs.Step.{step}
use Rattle.rewrite.specs.Run.{Walked, ends, returned, rebuilt_return, finish, glue, walk, Rewritten, Choice, block_then, skip_then, one_block, all_blocks, choice, rewritten_by, rewritten_blocks, rewrite_with, rewrite}
use Rattle.rewrite.specs.Sum.{instruction_count, without, before_end, built_before, left_out, rebuilt, left_out_block, left_out_blocks, rebuilt_block, rebuilt_blocks}
use Rattle.rewrite.specs.Lowers.{Lowers, LowersAll}
use Rattle.rewrite.proofs.Steps.{rebuilds_returns}
use Rattle.rewrite.proofs.Deep.{builds_count, stood}
use Rattle.rewrite.proofs.Made.{MadeFirst, Made, made}
use Rattle.rewrite.proofs.Unchanged.{phis_behind}

-- ## In order

-- the same next value, written otherwise
to : {n : ℕ} {is os : List Instruction} {t u : Terminator} {ds : List ValueId} {k : ℕ} (m : ℕ) → k ≡ m → Lowers n is t os u ds k → Lowers n is t os u ds m
to m e r = rw (← e) r

-- the terminator, behind the rebuilds that a Return needs
lowers_return : (e : Edition) (τ : Types) (S : AggStates) (n : ℕ) (xs : List Value) → let r = rebuilt_return e τ S n xs in Lowers n [] (Return xs) r.before (Return r.values) [] (n + length r.fresh)
unfolding rebuilt_return
lowers_return Edition.First τ S n xs = Lowers.returned (rebuilds_returns τ S n xs)
lowers_return Edition.Second τ S n xs = Lowers.returned_behind (stood τ S n xs).builds (stood τ S n xs).renamed

lowers_end : (σ : Settings) (τ : Types) (S : AggStates) (n : ℕ) (t : Terminator) → let w = finish σ τ S n t in Lowers n [] t w.out w.terminator w.dropped (n + length w.fresh)
unfolding finish ends returned
lowers_end σ τ S n (Jump b) = to _ (omega arith) Lowers.ended
lowers_end σ τ S n (If x a b) = to _ (omega arith) Lowers.ended
lowers_end σ τ S n (BranchCmp op x y a b) = to _ (omega arith) Lowers.ended
lowers_end σ τ S n (Return xs) = lowers_return σ.edition τ S n xs
lowers_end σ τ S n Unreachable = to _ (omega arith) Lowers.ended

abbrev Lowered : ℕ → List Instruction → Terminator → Walked → Type 0
Lowered n is t w = Lowers n is t w.out w.terminator w.dropped (n + length w.fresh)

-- a piece in front of what comes behind it
lowers_piece : (S : AggStates) (n : ℕ) (i : Instruction) (p : Piece) (k : ℕ) → Made S n i p k → (is : List Instruction) (t : Terminator) (w : Walked) → Lowered (n + length p.fresh) is t w → Lowered n (i ∷ is) t (glue p w)
unfolding glue kept left assigned kept_behind
lowers_piece S n i p k (Made.in_first MadeFirst.as_kept) is t w l = Lowers.kept (rw (add-zero n) at l)
lowers_piece S n i p k (Made.in_first (MadeFirst.as_left c S' v)) is t w l = Lowers.left v (rw (add-zero n) at l)
lowers_piece S n i p k (Made.in_first (MadeFirst.as_assigned c s)) is t w l = Lowers.assigned s (rw (add-zero n) at l)
lowers_piece S n i p k (Made.in_first (MadeFirst.as_called a rs f ps qs ts h r)) is t w l = rw (append_assoc, length-append, ← add_assoc) (Lowers.called r l)
lowers_piece S n i p k (Made.in_first (MadeFirst.as_stored a q u ts h r)) is t w l = rw (append_assoc, length-append, ← add_assoc) (Lowers.stored r l)
lowers_piece S n i p k (Made.as_behind j r h) is t w l = rw (append_assoc, length-append, ← add_assoc) (Lowers.kept_behind h.builds h.renamed l)

-- the walk's output stands in order to its input
pub lowers_walk : (σ : Settings) (τ : Types) (folds : ValueId → Bool) (S : AggStates) (n : ℕ) (is : List Instruction) (t : Terminator) → let w = walk σ τ folds S n is t in Lowers n is t w.out w.terminator w.dropped (n + length w.fresh)
unfolding walk
lowers_walk σ τ folds S n [] t = lowers_end σ τ S n t
lowers_walk σ τ folds S n (i ∷ is) t =
    let p = step σ τ folds S n i in
    lowers_piece S n i _ _ (made σ τ folds S n i) is t _ (lowers_walk σ τ folds p.states (n + length p.fresh) is t)

module _ (σ : Settings) (τ : Types) (c : Choice) where
  lowers_block : (n : ℕ) (k : Block) (ks : List Block) (rest : ℕ → Rewritten) (b : Bool) → ((m : ℕ) → LowersAll m ks (rest m).blocks (rest m).dropped (m + length (rest m).fresh)) → let w = one_block σ τ c n k rest b in LowersAll n (k ∷ ks) w.blocks w.dropped (n + length w.fresh)
  unfolding one_block skip_then block_then
  lowers_block n k ks rest true f = LowersAll.skipped (f n)
  lowers_block n k ks rest false f = rw (length-append, ← add_assoc) (LowersAll.lowered (lowers_walk σ τ (c.folds k) no_states n (behind_phis k.instructions) k.terminator) (f _))

  -- and so do the blocks'
  pub lowers_blocks : (n : ℕ) (ks : List Block) → let w = all_blocks σ τ c n ks in LowersAll n ks w.blocks w.dropped (n + length w.fresh)
  unfolding all_blocks
  lowers_blocks n [] = rw (add-zero n) LowersAll.none
  lowers_blocks n (k ∷ ks) = lowers_block n k ks _ (c.skips k) (λ m. lowers_blocks m ks)

-- of a whole routine, by any choice
pub lowers_by : (σ : Settings) (c : Choice) (r : Routine) → let w = rewritten_by σ c r in LowersAll r.next r.blocks w.blocks w.dropped (rewrite_with w r).next
unfolding rewritten_by rewrite_with
lowers_by σ c r = lowers_blocks σ (types_in r) c r.next r.blocks

-- "every output instruction is an input instruction kept or rewritten, in order, or a rebuild directly before what needs it"
pub lowers : (σ : Settings) (r : Routine) → LowersAll r.next r.blocks (rewrite σ r).blocks (rewritten_blocks σ r).dropped (rewrite σ r).next
unfolding rewritten_blocks rewrite rewrite_with
lowers σ r = lowers_by σ (choice σ r) r

-- ## The closing sum

without_last : (bs : List Instruction) (i : Instruction) → without (bs ++ (i ∷ [])) ≡ 0
unfolding without
without_last [] i = refl
without_last (b ∷ bs) i = refl

-- one instruction with its rebuilds comes out, or none and it is left out
sum_piece : (S : AggStates) (n : ℕ) (i : Instruction) (p : Piece) (k : ℕ) → Made S n i p k → length p.out + without p.out ≡ 1 + k
unfolding kept left assigned kept_behind without
sum_piece S n i p k (Made.in_first MadeFirst.as_kept) = refl
sum_piece S n i p k (Made.in_first (MadeFirst.as_left c S' v)) = refl
sum_piece S n i p k (Made.in_first (MadeFirst.as_assigned c s)) = refl
sum_piece S n i p k (Made.in_first (MadeFirst.as_called a rs f ps qs {bs} ts h r)) = rw (without_last, length-append) (omega arith)
sum_piece S n i p k (Made.in_first (MadeFirst.as_stored a q u ts h r)) = rw (without_last, length-append) (omega arith)
sum_piece S n i p k (Made.as_behind j r h) = rw (without_last, length-append) (omega (arith, builds_count h.builds))

-- the rebuilds of a Return are all that its walk puts out
sum_return : (e : Edition) (τ : Types) (S : AggStates) (n : ℕ) (xs : List Value) → let r = rebuilt_return e τ S n xs in length r.before ≡ built_before e (before_end τ S n (Return xs)) r.fresh
unfolding rebuilt_return built_before before_end
sum_return Edition.First τ S n xs = refl
sum_return Edition.Second τ S n xs = omega (arith, builds_count (stood τ S n xs).builds)

none_before : (e : Edition) → built_before e 0 [] ≡ 0
unfolding built_before
none_before Edition.First = refl
none_before Edition.Second = refl

sum_end : (σ : Settings) (τ : Types) (S : AggStates) (n : ℕ) (t : Terminator) → length (finish σ τ S n t).out ≡ built_before σ.edition (before_end τ S n t) (finish σ τ S n t).fresh
unfolding finish ends returned before_end
sum_end σ τ S n (Jump b) = rw (none_before σ.edition)
sum_end σ τ S n (If x a b) = rw (none_before σ.edition)
sum_end σ τ S n (BranchCmp op x y a b) = rw (none_before σ.edition)
sum_end σ τ S n (Return xs) = sum_return σ.edition τ S n xs
sum_end σ τ S n Unreachable = rw (none_before σ.edition)

-- in front of what comes behind it
sum_both : (os qs : List Instruction) (w l k c b : ℕ) → length os + w ≡ 1 + k → length qs + l ≡ c + b → length (os ++ qs) + (w + l) ≡ suc c + (k + b)
sum_both os qs w l k c b e f = rw length-append (omega arith)

-- of a walk: output plus left out equals input plus rebuilt
pub sum_walk : (σ : Settings) (τ : Types) (folds : ValueId → Bool) (S : AggStates) (n : ℕ) (is : List Instruction) (t : Terminator) → length (walk σ τ folds S n is t).out + left_out σ τ folds S n is ≡ length is + rebuilt σ τ folds S n is t
unfolding walk left_out rebuilt glue
sum_walk σ τ folds S n [] t = omega (arith, sum_end σ τ S n t)
sum_walk σ τ folds S n (i ∷ is) t = let p = step σ τ folds S n i in sum_both p.out _ (without p.out) _ _ (length is) _ (sum_piece S n i _ _ (made σ τ folds S n i)) (sum_walk σ τ folds p.states (n + length p.fresh) is t)

-- of a block whose phis stay, in front of others
sum_parts : (ps os is all : List Instruction) (l b x y m k : ℕ) → length os + l ≡ length is + b → x + m ≡ y + k → ps ++ is ≡ all → length (ps ++ os) + x + (l + m) ≡ length all + y + (b + k)
sum_parts ps os is all l b x y m k e f g = omega (arith, length-append ps os, length-append ps is, ap length g)

module _ (σ : Settings) (τ : Types) (c : Choice) where
  -- of a block, skipped or walked
  sum_block : (n : ℕ) (k : Block) (ks : List Block) (rest : ℕ → Rewritten) (l b : ℕ → ℕ) (s : Bool) → ((m : ℕ) → instruction_count (rest m).blocks + l m ≡ instruction_count ks + b m) → instruction_count (one_block σ τ c n k rest s).blocks + left_out_block σ τ c n k l s ≡ instruction_count (k ∷ ks) + rebuilt_block σ τ c n k b s
  unfolding one_block skip_then block_then left_out_block rebuilt_block instruction_count
  sum_block n k ks rest l b true f = omega (arith, f n)
  sum_block n k ks rest l b false f =
      let is = behind_phis k.instructions in
      let w = walk σ τ (c.folds k) no_states n is k.terminator in
      sum_parts (phis_of k.instructions) w.out is k.instructions _ _ _ _ _ _ (sum_walk σ τ (c.folds k) no_states n is k.terminator) (f (n + length w.fresh)) (phis_behind k.instructions)

  -- of all blocks
  pub sum_blocks : (n : ℕ) (ks : List Block) → instruction_count (all_blocks σ τ c n ks).blocks + left_out_blocks σ τ c n ks ≡ instruction_count ks + rebuilt_blocks σ τ c n ks
  unfolding all_blocks left_out_blocks rebuilt_blocks
  sum_blocks n [] = refl
  sum_blocks n (k ∷ ks) = sum_block n k ks _ _ _ (c.skips k) (λ m. sum_blocks m ks)

-- of a whole routine, by any choice
pub closing_sum_by : (σ : Settings) (c : Choice) (r : Routine) → instruction_count (rewritten_by σ c r).blocks + left_out_blocks σ (types_in r) c r.next r.blocks ≡ instruction_count r.blocks + rebuilt_blocks σ (types_in r) c r.next r.blocks
unfolding rewritten_by
closing_sum_by σ c r = sum_blocks σ (types_in r) c r.next r.blocks

-- "output plus left out equals input plus rebuilt"
pub closing_sum : (σ : Settings) (r : Routine) → instruction_count (rewrite σ r).blocks + left_out_blocks σ (types_in r) (choice σ r) r.next r.blocks ≡ instruction_count r.blocks + rebuilt_blocks σ (types_in r) (choice σ r) r.next r.blocks
unfolding rewrite rewrite_with rewritten_blocks
closing_sum σ r = closing_sum_by σ (choice σ r) r
