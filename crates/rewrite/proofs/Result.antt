-- The result is 1 exactly where the first count is not 0: nothing is forwarded before a build is folded.
use Prim.Native.Nat.{ℕ, zero, suc, ◌+◌}
use native.Mathlib.Nat.{add-zero, zero-add}
use native.Mathlib.Omega.{arith}
use mathlib.Core.Path.{◌≡◌, refl}
use mathlib.Core.List.{List, [], ◌∷◌}
use mathlib.Core.Bool.{Bool, true, false, not, ◌||◌}
use mathlib.Core.Option.{Option, none, some}
use lib.ListN.{length}
use lib.Dec.{eqb}
use borrow.Author.Tests.{ne_eqb}
use Rattle.mir.specs.declared.ValueId.{ValueId}
use Rattle.mir.specs.declared.TypeId.{TypeId}
use Rattle.mir.specs.declared.Value.{Value}
use Rattle.mir.specs.declared.Projection.{Projection}
use Rattle.mir.specs.Syntax.{Place, Meta, Instruction, InstructionKind, Terminator, Jump, If, BranchCmp, Return, Unreachable, Block}
use Rattle.mir.specs.Syntax.{Assign, UnaryOp, BinaryOp, Call, Cast, Load, Store, Debug, Nop, Phi}
use Rattle.mir.specs.Syntax.{MakeTuple, ExtractTupleElement, MakeStruct, ExtractStructField, InsertField, InsertTuple, MakeFixedArray, AssertEq, HeapAllocCells}
use Rattle.mir.specs.Routine.{Routine}
use Rattle.fold.specs.declared.Edition.{Edition}
use Rattle.fold.specs.Family.{Marks}
use Rattle.fold.specs.declared.Settings.{Settings}
use Rattle.mir.specs.Lookup.{Types, row_of, on_some, types_in}
use Rattle.bytes_struct.specs.FindField.{field_index}
use Rattle.mir.specs.Phis.{behind_phis}
use Rattle.rewrite.specs.State.{AggStates, no_states, insert_state, state_of, first_integer, store_part, store_from, forward_store}
use Rattle.rewrite.specs.Rebuild.{Rebuilt, keep_value, one_value, Wanted, rebuild_all, wanted_arguments, wanted_returns}
use Rattle.rewrite.specs.declared.Fault.{Fault}
use Rattle.rewrite.specs.Deep.{wanted_own, Inner, deep_value, deep_values, deep_all, rebuild_deep}
use Rattle.rewrite.specs.Readings.{readings}
use Rattle.rewrite.specs.Piece.{Piece, kept, left, tracked, one_build}
use Rattle.rewrite.specs.Stays.{store_kept, step_call, guarded, stays_first, any_fresh, stays_second, stays_in, stays}
use Rattle.rewrite.specs.Step.{step_build, folded_parts, step_insert, step_extract, extract_index, step_loaded, step_load, step_store, step_assign, step_kind, step}
use Rattle.rewrite.specs.Run.{Walked, ends, returned, rebuilt_return, finish, glue, walk, Rewritten, Choice, block_then, skip_then, one_block, all_blocks, choice, rewritten_by, rewritten_blocks}
use Rattle.rewrite.proofs.Deep.{stood}
use Rattle.rewrite.proofs.Unchanged.{alone, behind_none}

-- with no states no value is tracked
no_state : (x : Value) → state_of no_states x ≡ none
unfolding state_of no_states
no_state (Value.Literal l) = refl
no_state (Value.Operand v) = refl
no_state Value.Error = refl

-- and what needs one is none
on_none : {A B : Type 0} (o : Option A) → on_some {A = A} {B = B} o (λ a. none) ≡ none
unfolding on_some
on_none none = refl
on_none (some a) = refl

-- nothing is rebuilt
keeps : (τ : Types) (n : ℕ) (x : Value) (rest : ℕ → Rebuilt) (o : Option TypeId) → one_value τ n x rest o none ≡ keep_value x (rest n)
unfolding one_value
keeps τ n x rest none = refl
keeps τ n x rest (some t) = refl

none_fresh : (τ : Types) (n : ℕ) (ws : List Wanted) → (rebuild_all τ no_states n ws).fresh ≡ []
unfolding rebuild_all keep_value
none_fresh τ n [] = refl
none_fresh τ n (w ∷ ws) = rw (no_state w.value, keeps) (none_fresh τ n ws)

-- nor in edition 2
keeps_deep : (τ : Types) (path : Marks) (inner : Inner) (n : ℕ) (x : Value) (rest : ℕ → Rebuilt) (o : Option TypeId) → deep_value τ path inner n x rest o none ≡ keep_value x (rest n)
unfolding deep_value
keeps_deep τ path inner n x rest none = refl
keeps_deep τ path inner n x rest (some t) = refl

none_values : (τ : Types) (path : Marks) (inner : Inner) (n : ℕ) (ws : List Wanted) → (deep_values τ no_states path inner n ws).fresh ≡ []
unfolding deep_values keep_value
none_values τ path inner n [] = refl
none_values τ path inner n (w ∷ ws) = rw (no_state w.value, keeps_deep) (none_values τ path inner n ws)

none_deep : (τ : Types) (n : ℕ) (ws : List Wanted) → (rebuild_deep τ no_states n ws).fresh ≡ []
unfolding rebuild_deep deep_all
none_deep τ n ws = none_values τ _ _ n ws

-- what a step with no states gives: the instruction alone, or a build folded where the choice says so
pub data First (folds : ValueId → Bool) (i : Instruction) : Piece → Type 0 where
  keeps_it : (f : ℕ → Option Fault) → First folds i (alone no_states i f)
  folds_it : (d : ValueId) (xs : List Value) → folds d ≡ true → First folds i (tracked one_build no_states d xs)

module _ (folds : ValueId → Bool) (i : Instruction) (stay : Piece) (h : First folds i stay) where
  first_parts : (d : ValueId) (o : Option (List Value)) → folds d ≡ true → First folds i (step_build no_states stay d o)
  unfolding step_build
  first_parts d none e = h
  first_parts d (some xs) e = First.folds_it d xs e

  first_build : (d : ValueId) (b : Bool) (o : Option (List Value)) → folds d ≡ b → First folds i (step_build no_states stay d (folded_parts b o))
  unfolding folded_parts step_build
  first_build d true o e = first_parts d o e
  first_build d false o e = h

  first_guarded : (b : Bool) (p : Piece) → First folds i p → First folds i (guarded b stay p)
  unfolding guarded
  first_guarded true p f = f
  first_guarded false p f = h

  first_load : (τ : Types) (d : ValueId) (p : Place) (t : TypeId) (o : Option ℕ) → First folds i (step_load τ no_states stay d p t o)
  unfolding step_load step_loaded on_some no_states
  first_load τ d p t none = h
  first_load τ d p t (some k) = h

-- no Store is forwarded
no_from : (τ : Types) (v : ValueId) (ps : List Projection) (y : Value) (k : ℕ) → store_from τ no_states v ps y k ≡ none
unfolding store_from store_part on_some no_states
no_from τ v [] y k = refl
no_from τ v (p ∷ []) y k = refl
no_from τ v (p ∷ q ∷ ps) y k = refl

no_forward : (τ : Types) (p : Place) (y : Value) → forward_store τ no_states p y ≡ none
unfolding forward_store on_some
no_forward τ p y = split (first_integer p.projections)
  where
    split : (o : Option ℕ) → on_some o (λ k. store_from τ no_states p.base p.projections y k) ≡ none
    split none = refl
    split (some k) = no_from τ p.base p.projections y k

module _ (σ : Settings) (τ : Types) (folds : ValueId → Bool) (n : ℕ) where
  -- where nothing is tracked, nothing is rebuilt before what stays
  stays_alone : (i : Instruction) (k : InstructionKind) → First folds i (stays_first σ τ no_states n i k)
  unfolding stays_first kept step_call store_kept on_some
  stays_alone i (Assign d x t) = First.keeps_it _
  stays_alone i (UnaryOp op d x) = First.keeps_it _
  stays_alone i (BinaryOp op d x y) = First.keeps_it _
  stays_alone i (Call ds f xs ps rs) = rw (none_fresh τ n (wanted_arguments τ xs ps)) (First.keeps_it _)
  stays_alone i (Cast d x t u) = First.keeps_it _
  stays_alone i (Load d p t) = First.keeps_it _
  stays_alone i (Store p x t) = rw (no_state x, on_none) (first_guarded folds i _ (First.keeps_it _) σ.tuples _ (First.keeps_it _))
  stays_alone i (Debug m xs) = First.keeps_it _
  stays_alone i Nop = First.keeps_it _
  stays_alone i (Phi d t ss) = First.keeps_it _
  stays_alone i (MakeTuple d xs) = First.keeps_it _
  stays_alone i (ExtractTupleElement d x k t) = First.keeps_it _
  stays_alone i (MakeStruct d fs t) = First.keeps_it _
  stays_alone i (ExtractStructField d x f t) = First.keeps_it _
  stays_alone i (InsertField d x f y t) = First.keeps_it _
  stays_alone i (InsertTuple d x k y t) = First.keeps_it _
  stays_alone i (MakeFixedArray d xs t c) = First.keeps_it _
  stays_alone i (AssertEq x y) = First.keeps_it _
  stays_alone i (HeapAllocCells d x) = First.keeps_it _

  behind_nothing : (i : Instruction) → First folds i (stays_second τ no_states n i)
  unfolding stays_second any_fresh
  behind_nothing i = rw (behind_none no_states n i _ (stood τ no_states n (readings i.kind)) (rw (none_deep τ n (wanted_own τ (readings i.kind))))) (First.keeps_it _)

  first_stays : (i : Instruction) → First folds i (stays σ τ no_states n i)
  unfolding stays stays_in
  first_stays i = split σ.edition
    where
      split : (e : Edition) → First folds i (stays_in e σ τ no_states n i)
      split Edition.First = stays_alone i i.kind
      split Edition.Second = behind_nothing i

  first_kind : (a : Meta) (k : InstructionKind) → let i : Instruction = record { meta = a; kind = k } in First folds i (step_kind σ τ folds no_states n i k)
  unfolding step_kind step_assign step_insert step_extract step_store on_some
  first_kind a (Assign d x t) = rw (no_state x, on_none) (first_stays _)
  first_kind a (UnaryOp op d x) = first_stays _
  first_kind a (BinaryOp op d x y) = first_stays _
  first_kind a (Call ds f xs ps rs) = first_stays _
  first_kind a (Cast d x t u) = first_stays _
  first_kind a (Load d p t) = first_guarded folds _ _ (first_stays _) _ _ (first_load folds _ _ (first_stays _) τ d p t _)
  first_kind a (Store p x t) = first_guarded folds _ _ (first_stays _) _ _ (rw (no_forward τ p x) (first_stays _))
  first_kind a (Debug m xs) = first_stays _
  first_kind a Nop = first_stays _
  first_kind a (Phi d t ss) = first_stays _
  first_kind a (MakeTuple d xs) = first_build folds _ _ (first_stays _) d (folds d) _ refl
  first_kind a (ExtractTupleElement d x k t) = first_guarded folds _ _ (first_stays _) _ _ (rw (no_state x) (first_stays _))
  first_kind a (MakeStruct d fs t) = first_build folds _ _ (first_stays _) d (folds d) _ refl
  first_kind a (ExtractStructField d x f t) = first_guarded folds _ _ (first_stays _) _ _ (rw (no_state x, on_none (extract_index τ x f)) (first_stays _))
  first_kind a (InsertField d x f y t) = first_guarded folds _ _ (first_stays _) _ _ (rw (no_state x, on_none (field_index (row_of τ (some t)) f)) (first_stays _))
  first_kind a (InsertTuple d x k y t) = first_guarded folds _ _ (first_stays _) _ _ (rw (no_state x) (first_stays _))
  first_kind a (MakeFixedArray d xs t c) = first_build folds _ _ (first_stays _) d (folds d) _ refl
  first_kind a (AssertEq x y) = first_stays _
  first_kind a (HeapAllocCells d x) = first_stays _

  -- nothing but a build is folded before a build is
  pub first : (i : Instruction) → First folds i (step σ τ folds no_states n i)
  unfolding step
  first i = first_kind i.meta i.kind

-- changed exactly where a build is counted
abbrev Told : Bool → ℕ → Type 0
Told changed builds = changed ≡ not (eqb builds 0)

-- one build is enough, whatever comes behind it
told_build : (y : ℕ) → Told true (1 + y)
told_build y = rw (ne_eqb (1 + y) 0 (λ e. omega arith))

-- both together
told_both : (a b : Bool) (x y : ℕ) → Told a x → Told b y → Told (a || b) (x + y)
told_both a b zero y e f = rw (e, zero-add) f
told_both a b (suc x) y e f = rw (e, ne_eqb (suc x) 0 (λ q. omega arith), ne_eqb (suc x + y) 0 (λ q. omega arith))

-- a first step
told_first : (folds : ValueId → Bool) (n : ℕ) (i : Instruction) (p : Piece) → First folds i p → (rest : AggStates → ℕ → Walked) → Told (rest no_states n).changed (rest no_states n).counts.builds → Told (glue p (rest p.states (n + length p.fresh))).changed (glue p (rest p.states (n + length p.fresh))).counts.builds
unfolding glue kept tracked left
told_first folds n i p (First.keeps_it g) rest f = rw (add-zero n, zero-add) f
told_first folds n i p (First.folds_it d xs e) rest f = told_build (rest (insert_state no_states d xs) (n + 0)).counts.builds

return_none : (e : Edition) (τ : Types) (n : ℕ) (xs : List Value) → (rebuilt_return e τ no_states n xs).fresh ≡ []
unfolding rebuilt_return
return_none Edition.First τ n xs = none_fresh τ n (wanted_returns τ xs)
return_none Edition.Second τ n xs = none_deep τ n (wanted_own τ xs)

-- the terminator counts no build, and changes nothing where nothing is tracked
told_end : (σ : Settings) (τ : Types) (n : ℕ) (t : Terminator) → Told (finish σ τ no_states n t).changed (finish σ τ no_states n t).counts.builds
unfolding finish ends returned
told_end σ τ n (Jump b) = refl
told_end σ τ n (If x a b) = refl
told_end σ τ n (BranchCmp op x y a b) = refl
told_end σ τ n (Return xs) = rw (return_none σ.edition τ n xs)
told_end σ τ n Unreachable = refl

quiet_end : (σ : Settings) (τ : Types) (n : ℕ) (t : Terminator) → (finish σ τ no_states n t).changed ≡ false
unfolding finish ends returned
quiet_end σ τ n (Jump b) = refl
quiet_end σ τ n (If x a b) = refl
quiet_end σ τ n (BranchCmp op x y a b) = refl
quiet_end σ τ n (Return xs) = rw (return_none σ.edition τ n xs)
quiet_end σ τ n Unreachable = refl

-- a walk that begins with no states
told_walk : (σ : Settings) (τ : Types) (folds : ValueId → Bool) (n : ℕ) (is : List Instruction) (t : Terminator) → let w = walk σ τ folds no_states n is t in Told w.changed w.counts.builds
unfolding walk
told_walk σ τ folds n [] t = told_end σ τ n t
told_walk σ τ folds n (i ∷ is) t = told_first folds n i _ (first σ τ folds n i) (λ S m. walk σ τ folds S m is t) (told_walk σ τ folds n is t)

module _ (σ : Settings) (τ : Types) (c : Choice) where
  told_block : (n : ℕ) (k : Block) (rest : ℕ → Rewritten) (b : Bool) → ((m : ℕ) → Told (rest m).changed (rest m).counts.builds) → Told (one_block σ τ c n k rest b).changed (one_block σ τ c n k rest b).counts.builds
  unfolding one_block skip_then block_then
  told_block n k rest true f = f n
  told_block n k rest false f = told_both _ _ (walk σ τ (c.folds k) no_states n (behind_phis k.instructions) k.terminator).counts.builds (rest (n + length (walk σ τ (c.folds k) no_states n (behind_phis k.instructions) k.terminator).fresh)).counts.builds (told_walk σ τ (c.folds k) n (behind_phis k.instructions) k.terminator) (f _)

  -- of all blocks
  pub result_blocks : (n : ℕ) (ks : List Block) → (all_blocks σ τ c n ks).changed ≡ not (eqb (all_blocks σ τ c n ks).counts.builds 0)
  unfolding all_blocks
  result_blocks n [] = refl
  result_blocks n (k ∷ ks) = told_block n k _ (c.skips k) (λ m. result_blocks m ks)

-- the result is true exactly where builds were folded, for any choice
pub result_count_by : (σ : Settings) (c : Choice) (r : Routine) → (rewritten_by σ c r).changed ≡ not (eqb (rewritten_by σ c r).counts.builds 0)
unfolding rewritten_by
result_count_by σ c r = result_blocks σ (types_in r) c r.next r.blocks

-- the result is 1 exactly where the first count is not 0
pub result_count : (σ : Settings) (r : Routine) → (rewritten_blocks σ r).changed ≡ not (eqb (rewritten_blocks σ r).counts.builds 0)
unfolding rewritten_blocks
result_count σ r = result_count_by σ (choice σ r) r

-- where the choice folds no build, nothing changes
quiet_first : (folds : ValueId → Bool) (n : ℕ) (i : Instruction) (p : Piece) → First folds i p → ((v : ValueId) → folds v ≡ false) → (rest : AggStates → ℕ → Walked) → (rest no_states n).changed ≡ false → (glue p (rest p.states (n + length p.fresh))).changed ≡ false
unfolding glue kept
quiet_first folds n i p (First.keeps_it g) h rest f = rw (add-zero n) f
quiet_first folds n i p (First.folds_it d xs e) h rest f = let z : ◌≡◌ {A = ℕ} 0 1 = cc (h d) in absurd (omega arith)

quiet_walk : (σ : Settings) (τ : Types) (folds : ValueId → Bool) (n : ℕ) (is : List Instruction) (t : Terminator) → ((v : ValueId) → folds v ≡ false) → (walk σ τ folds no_states n is t).changed ≡ false
unfolding walk
quiet_walk σ τ folds n [] t h = quiet_end σ τ n t
quiet_walk σ τ folds n (i ∷ is) t h = quiet_first folds n i _ (first σ τ folds n i) h (λ S m. walk σ τ folds S m is t) (quiet_walk σ τ folds n is t h)

module _ (σ : Settings) (τ : Types) (c : Choice) (h : (k : Block) (v : ValueId) → c.folds k v ≡ false) where
  quiet_block : (n : ℕ) (k : Block) (rest : ℕ → Rewritten) (b : Bool) → ((m : ℕ) → (rest m).changed ≡ false) → (one_block σ τ c n k rest b).changed ≡ false
  unfolding one_block skip_then block_then
  quiet_block n k rest true f = f n
  quiet_block n k rest false f = rw (quiet_walk σ τ (c.folds k) n (behind_phis k.instructions) k.terminator (h k)) (f _)

  -- of all blocks
  pub quiet_blocks : (n : ℕ) (ks : List Block) → (all_blocks σ τ c n ks).changed ≡ false
  unfolding all_blocks
  quiet_blocks n [] = refl
  quiet_blocks n (k ∷ ks) = quiet_block n k _ (c.skips k) (λ m. quiet_blocks m ks)
