-- The end of a block, and every rest of a block.
use mathlib.Core.Path.{◌≡◌, refl, sym, ap, ◌∙◌}
use Prim.Native.Nat.{ℕ, ◌≤◌}
use mathlib.Core.Bool.{Bool, not}
use mathlib.Core.Option.{Option, none, some}
use mathlib.Core.List.{List, [], ◌∷◌, ◌++◌}
use lib.Dec.{T, ltb}
use Rattle.mir.specs.declared.ValueId.{ValueId}
use Rattle.mir.specs.declared.Value.{Value}
use Rattle.mir.specs.Syntax.{Meta, Instruction, InstructionKind, Terminator, Assign, UnaryOp, BinaryOp, Call, Cast, Load, Store, Debug, Nop, Phi}
use Rattle.mir.specs.Syntax.{MakeTuple, ExtractTupleElement, MakeStruct, ExtractStructField, InsertField, InsertTuple, MakeFixedArray, AssertEq, HeapAllocCells}
use Rattle.mir.specs.Reads.{operand, operands, reads, dests, terminator_reads}
use Rattle.mir.specs.Lists.{Each}
use Rattle.mir.specs.Lookup.{Types}
use Rattle.mir.specs.Syntax.{Jump, If, BranchCmp, Return, Unreachable}
use Rattle.mir.specs.declared.BlockId.{BlockId}
use Rattle.fold.specs.declared.Edition.{Edition}
use Rattle.rewrite.specs.State.{AggStates}
use Rattle.rewrite.specs.Rebuild.{Rebuilt, wanted_returns}
use Rattle.rewrite.specs.Step.{step_kind, step}
use Rattle.rewrite.specs.Run.{ends, returned, finish, glue, walk, rebuilt_return}
use Rattle.machine.specs.Values.{Val, Vals}
use Rattle.machine.specs.Meaning.{Verdict, says, balks}
use Rattle.machine.specs.Records.{Env, write_all, Event, unwritten, own, Out, goes, stops, log}
use Rattle.machine.specs.Records as R
use Rattle.mir.specs.Parts.{operand_row}
use Rattle.machine.specs.Places.{no_row}
use Rattle.machine.specs.Evaluate.{eval, eval_all}
use Rattle.machine.specs.Exec.{exec}
use Rattle.machine.specs.Run.{onward, needed, branch, judged, exec_terminator, exec_all}
use Rattle.shelf.specs.Lists.{every}
use Rattle.shelf.specs.Reads.{counted_reads, clean, clean_terminator}
use Rattle.shelf.proofs.Flag.{counted_of}
use Rattle.machine_simulation.specs.Static.{below}
use Rattle.machine_simulation.proofs.Tools.{both_l, both_r}
use Rattle.machine_simulation.proofs.Frame.{Same, rest_of, eval_same, eval_all_same, exec_same, write_both}
use Rattle.machine_simulation.proofs.Retype.{retyped, Alike, looks_in, exec_later, terminator_later}
use Rattle.machine_simulation.proofs.Invariant.{Ctx, Tracks, Agree}
use Rattle.machine_simulation.proofs.Generic.{Match, on, over, halt, OkOut, runs, reruns, Sim, SimP, same_reads, low_alike, Recorded}
use Rattle.machine_simulation.proofs.Cases.{at}
use Rattle.machine_simulation.proofs.Builds.{sim_make_tuple, sim_make_struct, sim_make_fixed_array, sim_assign}
use Rattle.machine_simulation.proofs.Takes.{sim_extract_tuple_element, sim_extract_struct_field}
use Rattle.machine_simulation.proofs.Loads.{sim_load}
use Rattle.machine_simulation.proofs.Puts.{sim_insert_tuple, sim_insert_field}
use Rattle.machine_simulation.proofs.Stores.{sim_store}
use Rattle.machine_simulation.proofs.Rebuilds.{wanted_values, AtOwn, Ran, ran, rebuilt, type_own}
use Rattle.machine_simulation.proofs.Deep.{deep_rebuilt}
use Rattle.machine_simulation.proofs.Stays.{sim_stays}
use Rattle.machine_simulation.proofs.Twins.{twins_eval}

-- ---- terminators that stay

-- a Return ends alike
return_match : {A : Type 0} (κ : Ctx A) (xs : List Value) (E : Env A) (w : List (Val A)) (rec : List (Event A)) (o : Option (Vals A))
    → eval_all κ.mean E no_row xs ≡ o
    → Match κ (exec_terminator κ.mean κ.types (Return xs) E w rec) (exec_terminator κ.mean κ.types (Return xs) E w rec)
unfolding exec_terminator needed
return_match κ xs E w rec none e = rw e (halt unwritten rec)
return_match κ xs E w rec (some ys) e = rw e (over _ _)

-- an If goes the same way
if_match : {A : Type 0} (κ : Ctx A) (x : Value) (a b : BlockId) (E F : Env A) (w : List (Val A)) (rec : List (Event A)) → Agree κ E F
    → (o : Option (Val A)) → eval κ.mean E none x ≡ o → eval κ.mean F none x ≡ o
    → Match κ (exec_terminator κ.mean κ.types (If x a b) E w rec) (exec_terminator κ.mean κ.types (If x a b) F w rec)
unfolding exec_terminator needed
if_match κ x a b E F w rec ag none e h = rw (e, h) (halt unwritten rec)
if_match κ x a b E F w rec ag (some y) e h = rw (e, h) (on (branch (κ.mean.truth y) a b) E F w rec ag)

-- a verdict goes the same way
judged_match : {A : Type 0} (κ : Ctx A) (v : Verdict) (a b : BlockId) (E F : Env A) (w : List (Val A)) (rec : List (Event A)) → Agree κ E F
    → Match κ (judged v rec (λ c. R.next (branch c a b) E w rec)) (judged v rec (λ c. R.next (branch c a b) F w rec))
unfolding judged
judged_match κ (says c) a b E F w rec ag = on (branch c a b) E F w rec ag
judged_match κ (balks c) a b E F w rec ag = halt (own c) rec

-- a BranchCmp goes the same way
branch_match : {A : Type 0} (κ : Ctx A) (op : ℕ) (x y : Value) (a b : BlockId) (E F : Env A) (w : List (Val A)) (rec : List (Event A)) → Agree κ E F
    → (o q : Option (Val A))
    → eval κ.mean E (operand_row κ.types y) x ≡ o → eval κ.mean F (operand_row κ.types y) x ≡ o
    → eval κ.mean E (operand_row κ.types x) y ≡ q → eval κ.mean F (operand_row κ.types x) y ≡ q
    → Match κ (exec_terminator κ.mean κ.types (BranchCmp op x y a b) E w rec) (exec_terminator κ.mean κ.types (BranchCmp op x y a b) F w rec)
unfolding exec_terminator needed
branch_match κ op x y a b E F w rec ag none q e h e' h' = rw (e, h) (halt unwritten rec)
branch_match κ op x y a b E F w rec ag (some u) none e h e' h' = rw (e, h) (rw (e', h') (halt unwritten rec))
branch_match κ op x y a b E F w rec ag (some u) (some v) e h e' h' = rw (e, h) (rw (e', h') (judged_match κ (κ.mean.compare op u v) a b E F w rec ag))

-- a Return of equal values
return_same : {A : Type 0} (κ : Ctx A) (xs ys : List Value) (E G : Env A) (w : List (Val A)) (rec : List (Event A))
    → eval_all κ.mean G no_row ys ≡ eval_all κ.mean E no_row xs
    → exec_terminator κ.mean (retyped κ.types κ.later) (Return ys) G w rec ≡ exec_terminator κ.mean κ.types (Return xs) E w rec
unfolding exec_terminator
return_same κ xs ys E G w rec e = rw e

-- a terminator that reads the same on both sides, under one table
one_table : {A : Type 0} (κ : Ctx A) (t : Terminator) (E F : Env A) (w : List (Val A)) (rec : List (Event A)) → Agree κ E F → Each (Same E F) (terminator_reads t)
    → Match κ (exec_terminator κ.mean κ.types t E w rec) (exec_terminator κ.mean κ.types t F w rec)
unfolding exec_terminator
one_table κ (Jump b) E F w rec ag h = on b E F w rec ag
one_table κ (If x a b) E F w rec ag h = if_match κ x a b E F w rec ag (eval κ.mean E none x) refl (sym (eval_same κ.mean E F none x [] h))
one_table κ (BranchCmp op x y a b) E F w rec ag h =
    branch_match κ op x y a b E F w rec ag _ _ refl (sym (eval_same κ.mean E F (operand_row κ.types y) x (operand y []) h)) refl
    (sym (eval_same κ.mean E F (operand_row κ.types x) y [] (rest_of (Same E F) x (operand y []) h)))
one_table κ (Return xs) E F w rec ag h = rw (← (eval_all_same κ.mean E F no_row xs h)) (return_match κ xs E w rec (eval_all κ.mean E no_row xs) refl)
one_table κ Unreachable E F w rec ag h = over _ rec

-- a terminator that stays, under the rewritten routine's types
pub sim_terminator : {A : Type 0} (κ : Ctx A) (t : Terminator) (E F : Env A) (w : List (Val A)) (rec : List (Event A)) → Agree κ E F
    → T (every (λ v. ltb v.0 κ.m) (terminator_reads t)) → T (clean_terminator κ.dr t)
    → Match κ (exec_terminator κ.mean κ.types t E w rec) (exec_terminator κ.mean (retyped κ.types κ.later) t F w rec)
unfolding clean_terminator
sim_terminator κ t E F w rec ag lo cl =
    rw (← (terminator_later κ.mean κ.types κ.later t F w rec (low_alike κ (terminator_reads t) lo))) (one_table κ t E F w rec ag (same_reads κ E F ag (terminator_reads t) lo cl))

-- ---- a Return behind rebuilds

-- the values asked for are the returned ones
pub return_values : (τ : Types) (xs : List Value) → wanted_values (wanted_returns τ xs) ≡ xs
unfolding wanted_returns
return_values τ [] = refl
return_values τ (x ∷ xs) = ap (λ (l : List Value). x ∷ l) (return_values τ xs)

-- a returned value is rebuilt at its own type
pub return_own : (τ : Types) (S : AggStates) (xs : List Value) → AtOwn τ S (wanted_returns τ xs)
unfolding wanted_returns
return_own τ S [] = tt
return_own τ S (x ∷ xs) = (λ ys t a b. type_own τ x t b, return_own τ S xs)

-- nothing behind
append_nil : (l : List Instruction) → l ++ [] ≡ l
append_nil [] = refl
append_nil (i ∷ l) = ap (λ (r : List Instruction). i ∷ r) (append_nil l)

-- no instruction left
runs_nil : {A : Type 0} (κ : Ctx A) (t : Terminator) (E : Env A) (w : List (Val A)) (rec : List (Event A))
    → reruns κ [] t E w rec ≡ exec_terminator κ.mean (retyped κ.types κ.later) t E w rec
unfolding exec_all
runs_nil κ t E w rec = refl

-- a Return behind its rebuilds
return_ran : {A : Type 0} (κ : Ctx A) (xs : List Value) (n : ℕ) (r : Rebuilt) (E F : Env A) (w : List (Val A)) (rec : List (Event A)) → Ran κ n xs r E F
    → T (every (λ v. not (κ.dr v.0)) (operands r.values))
    → Match κ (exec_terminator κ.mean κ.types (Return xs) E w rec) (reruns κ r.before (Return r.values) F w rec)
return_ran κ xs n r E F w rec (ran G sm tw rn) cv =
    rw (← (append_nil r.before)) (rw (rn [] (Return r.values) w rec) (rw (runs_nil κ (Return r.values) G w rec)
    (rw (return_same κ xs r.values E G w rec (twins_eval κ.mean (retyped κ.types κ.later) E G xs r.values (tw cv) no_row)) (return_match κ xs E w rec (eval_all κ.mean E no_row xs) refl))))

-- its rebuilds, in either edition
return_rebuilt : {A : Type 0} (κ : Ctx A) (e : Edition) (xs : List Value) (S : AggStates) (n : ℕ) (E F : Env A) → κ.m ≤ n → Tracks κ S E [] → Agree κ E F
    → T (every (λ v. ltb v.0 κ.m) (operands xs)) → T (clean κ.mean.debug κ.dr (rebuilt_return e κ.types S n xs).before)
    → Recorded (retyped κ.types κ.later) n (rebuilt_return e κ.types S n xs).fresh → Ran κ n xs (rebuilt_return e κ.types S n xs) E F
unfolding rebuilt_return
return_rebuilt κ Edition.Second xs S n E F le tk ag lo cl rc = deep_rebuilt κ S E [] tk xs n F le ag lo cl rc
return_rebuilt κ Edition.First xs S n E F le tk ag lo cl rc =
    rw (return_values κ.types xs) at (rebuilt κ S E [] tk (wanted_returns κ.types xs) (return_own κ.types S xs) n F le ag (rw (return_values κ.types xs) lo) cl rc)

-- a Return
sim_return : {A : Type 0} (κ : Ctx A) (xs : List Value) (S : AggStates) (n : ℕ) (E F : Env A) (w : List (Val A)) (rec : List (Event A)) → κ.m ≤ n
    → Tracks κ S E [] → Agree κ E F
    → T (every (λ v. ltb v.0 κ.m) (operands xs)) → OkOut κ n (returned (rebuilt_return κ.set.edition κ.types S n xs))
    → Match κ (exec_terminator κ.mean κ.types (Return xs) E w rec)
    (reruns κ (rebuilt_return κ.set.edition κ.types S n xs).before (Return (rebuilt_return κ.set.edition κ.types S n xs).values) F w rec)
unfolding returned clean_terminator
sim_return κ xs S n E F w rec le tk ag lo ok =
    return_ran κ xs n (rebuilt_return κ.set.edition κ.types S n xs) E F w rec (return_rebuilt κ κ.set.edition xs S n E F le tk ag lo ok.reads ok.fresh) ok.reads_end

-- every terminator
pub sim_end : {A : Type 0} (κ : Ctx A) (φ : ValueId → Bool) (t : Terminator) → Sim κ φ [] t
unfolding walk finish ends returned exec_all
sim_end κ φ (Jump b) S n E F w rec le tk ag g ok fn = sim_terminator κ (Jump b) E F w rec ag g.low_end ok.reads_end
sim_end κ φ (If x a b) S n E F w rec le tk ag g ok fn = sim_terminator κ (If x a b) E F w rec ag g.low_end ok.reads_end
sim_end κ φ (BranchCmp op x y a b) S n E F w rec le tk ag g ok fn = sim_terminator κ (BranchCmp op x y a b) E F w rec ag g.low_end ok.reads_end
sim_end κ φ (Return xs) S n E F w rec le tk ag g ok fn = sim_return κ xs S n E F w rec le tk ag g.low_end ok
sim_end κ φ Unreachable S n E F w rec le tk ag g ok fn = sim_terminator κ Unreachable E F w rec ag g.low_end ok.reads_end

-- ---- every kind

-- every kind of instruction
sim_kind : {A : Type 0} (κ : Ctx A) (φ : ValueId → Bool) (m : Meta) (k : InstructionKind) (is : List Instruction) (t : Terminator) (S : AggStates)
    (n : ℕ) → Sim κ φ is t → SimP κ φ (at m k) is t S n (step_kind κ.set κ.types φ S n (at m k) k)
unfolding step_kind
sim_kind κ φ m (Assign d x u) is t S n sim = sim_assign κ φ m d x u is t S n sim
sim_kind κ φ m (UnaryOp op d x) is t S n sim = sim_stays κ φ (at m (UnaryOp op d x)) is t S n sim
sim_kind κ φ m (BinaryOp op d x y) is t S n sim = sim_stays κ φ (at m (BinaryOp op d x y)) is t S n sim
sim_kind κ φ m (Call ds f xs ps rs) is t S n sim = sim_stays κ φ (at m (Call ds f xs ps rs)) is t S n sim
sim_kind κ φ m (Cast d x u v) is t S n sim = sim_stays κ φ (at m (Cast d x u v)) is t S n sim
sim_kind κ φ m (Load d p u) is t S n sim = sim_load κ φ m d p u is t S n sim
sim_kind κ φ m (Store p x u) is t S n sim = sim_store κ φ m p x u is t S n sim
sim_kind κ φ m (Debug a xs) is t S n sim = sim_stays κ φ (at m (Debug a xs)) is t S n sim
sim_kind κ φ m Nop is t S n sim = sim_stays κ φ (at m Nop) is t S n sim
sim_kind κ φ m (Phi d u ss) is t S n sim = sim_stays κ φ (at m (Phi d u ss)) is t S n sim
sim_kind κ φ m (MakeTuple d xs) is t S n sim = sim_make_tuple κ φ m d xs is t S n sim
sim_kind κ φ m (ExtractTupleElement d x k u) is t S n sim = sim_extract_tuple_element κ φ m d x k u is t S n sim
sim_kind κ φ m (MakeStruct d fs u) is t S n sim = sim_make_struct κ φ m d fs u is t S n sim
sim_kind κ φ m (ExtractStructField d x f u) is t S n sim = sim_extract_struct_field κ φ m d x f u is t S n sim
sim_kind κ φ m (InsertField d x f y u) is t S n sim = sim_insert_field κ φ m d x f y u is t S n sim
sim_kind κ φ m (InsertTuple d x k y u) is t S n sim = sim_insert_tuple κ φ m d x k y u is t S n sim
sim_kind κ φ m (MakeFixedArray d xs u c) is t S n sim = sim_make_fixed_array κ φ m d xs u c is t S n sim
sim_kind κ φ m (AssertEq x y) is t S n sim = sim_stays κ φ (at m (AssertEq x y)) is t S n sim
sim_kind κ φ m (HeapAllocCells d x) is t S n sim = sim_stays κ φ (at m (HeapAllocCells d x)) is t S n sim

-- the rest of a block does what its rewriting does
pub sim_rest : {A : Type 0} (κ : Ctx A) (φ : ValueId → Bool) (is : List Instruction) (t : Terminator) → Sim κ φ is t
unfolding walk step exec_all glue
sim_rest κ φ [] t = sim_end κ φ t
sim_rest κ φ (i ∷ is) t = λ S n. sim_kind κ φ i.meta i.kind is t S n (sim_rest κ φ is t)

-- ---- a block that is copied

-- both sides have made a step with one outcome
copy_on : {A : Type 0} (κ : Ctx A) (is : List Instruction) (t : Terminator) (E F : Env A) (rec : List (Event A)) → Agree κ E F
    → ((E F : Env A) (w : List (Val A)) (rec : List (Event A)) → Agree κ E F → Match κ (runs κ is t E w rec) (reruns κ is t F w rec)) → (o : Out A)
    → Match κ (onward o E rec (λ E' w' rec'. runs κ is t E' w' rec')) (onward o F rec (λ E' w' rec'. reruns κ is t E' w' rec'))
unfolding onward
copy_on κ is t E F rec ag h (goes ws w ev) = h (write_all ws E) (write_all ws F) w (log ev rec) (λ x lo nd. write_both ws E F x (ag x lo nd))
copy_on κ is t E F rec ag h (R.ends e ev) = over e (log ev rec)
copy_on κ is t E F rec ag h (stops c ev) = halt c (log ev rec)

-- instructions that are copied
pub sim_copied : {A : Type 0} (κ : Ctx A) (is : List Instruction) (t : Terminator) (E F : Env A) (w : List (Val A)) (rec : List (Event A))
    → Agree κ E F → T (below κ.m is) → T (every (λ v. ltb v.0 κ.m) (terminator_reads t))
    → T (clean κ.mean.debug κ.dr is) → T (clean_terminator κ.dr t) → Match κ (runs κ is t E w rec) (reruns κ is t F w rec)
unfolding exec_all below clean
sim_copied κ [] t E F w rec ag lo lt cl ct = sim_terminator κ t E F w rec ag lt ct
sim_copied κ (i ∷ is) t E F w rec ag lo lt cl ct =
    let lr : T (every (λ v. ltb v.0 κ.m) (reads i.kind)) = search (both_l) in
    let ld : T (every (λ v. ltb v.0 κ.m) (dests i.kind)) = search (both_l, both_r) in
    let lo2 : T (below κ.m is) = search (both_l, both_r) in
    let cl1 : T (every (λ v. not (κ.dr v.0)) (counted_reads κ.mean.debug i.kind)) = search (both_l) in
    let cl2 : T (clean κ.mean.debug κ.dr is) = search (both_l, both_r) in
    let al = looks_in (Alike κ.types κ.later) i.kind (low_alike κ (reads i.kind) lr) (low_alike κ (dests i.kind) ld) in
    let e : exec κ.mean κ.types i.kind E w ≡ exec κ.mean (retyped κ.types κ.later) i.kind F w =
    exec_same κ.mean κ.types i.kind E F w (same_reads κ E F ag (counted_reads κ.mean.debug i.kind) (counted_of (λ v. ltb v.0 κ.m) κ.mean.debug i.kind lr) cl1)
    ∙ exec_later κ.mean κ.types κ.later i.kind F w al in
    rw e (copy_on κ is t E F rec ag (λ E' F' w' rec' ag'. sim_copied κ is t E' F' w' rec' ag' lo2 lt cl2 ct) (exec κ.mean (retyped κ.types κ.later) i.kind F w))
