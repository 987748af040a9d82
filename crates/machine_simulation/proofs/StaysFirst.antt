-- What becomes of an instruction that stays in edition 1: a Store's value and a Call's arguments are rebuilt.
use mathlib.Core.Path.{◌≡◌, refl, sym, ◌∙◌}
use Prim.Native.Nat.{ℕ, ◌+◌}
use mathlib.Core.Bool.{Bool, true, false, not, ◌&&◌, ◌||◌}
use mathlib.Core.Option.{Option, none, some}
use mathlib.Core.List.{List, [], ◌∷◌, ◌++◌}
use lib.Dec.{T, ltb}
use lib.ListN.{length}
use Rattle.mir.specs.declared.ValueId.{ValueId}
use Rattle.mir.specs.declared.TypeId.{TypeId}
use Rattle.mir.specs.declared.Value.{Value}
use Rattle.mir.specs.MirType.{MirType}
use Rattle.mir.specs.Syntax.{Meta, Place, Instruction, InstructionKind, Terminator}
use Rattle.mir.specs.Syntax.{Assign, UnaryOp, BinaryOp, Call, Cast, Load, Store, Debug, Nop, Phi}
use Rattle.mir.specs.Syntax.{MakeTuple, ExtractTupleElement, MakeStruct, ExtractStructField, InsertField, InsertTuple, MakeFixedArray, AssertEq, HeapAllocCells}
use Rattle.mir.specs.Reads.{operand, operands, indices}
use Rattle.mir.specs.Lookup.{Types, row_of, recorded_type, value_row, is_aggregate, on_some}
use Rattle.rewrite.specs.State.{AggStates, state_of}
use Rattle.rewrite.specs.Rebuild.{Rebuilt, untouched, rebuild_all, rebuild_value, one_value, aggregate_type, wanted_arguments}
use Rattle.rewrite.specs.Fault.{first_met, full_fault}
use Rattle.rewrite.specs.Piece.{Piece, no_counts, kept}
use Rattle.rewrite.specs.Stays.{store_rebuilt, store_kept, guarded, stays_first}
use Rattle.rewrite.specs.Run.{glue}
use Rattle.machine.specs.Values.{Val, ends, cons_val}
use Rattle.machine.specs.Records.{Env}
use Rattle.mir.specs.Parts.{is_pointer}
use Rattle.machine.specs.Evaluate.{eval, eval_all, eval_steps}
use Rattle.machine.specs.Exec.{exec}
use Rattle.shelf.specs.Lists.{every}
use Rattle.shelf.specs.Fits.{same_type, fits, place_type}
use Rattle.machine_simulation.specs.Typing.{typed}
use Rattle.shelf.specs.Reads.{counted_reads}
use Rattle.machine_simulation.proofs.Tools.{both_l, both_r, both, none_some, every_l, every_r, differ'}
use Rattle.machine_simulation.proofs.Frame.{eval_steps_same}
use Rattle.machine_simulation.proofs.Retype.{retyped, exec_later}
use Rattle.machine_simulation.proofs.Invariant.{numbered, Ctx}
use Rattle.machine_simulation.proofs.Generic.{ok_later, recorded_l, walks, Sim, SimP, clean_l, clean_r, clean_one, reads_low, same_reads, low_alike}
use Rattle.machine_simulation.proofs.Cases.{at, base_other, sim_kept, is_typed}
use Rattle.machine_simulation.proofs.Twins.{twins_eval}
use Rattle.machine_simulation.proofs.Rebuilds.{rebuilt}
use Rattle.machine_simulation.proofs.Calls.{after_builds, call_go}

-- ---- a Store that stays, with its value rebuilt

-- a list of one value
one_val : {A : Type 0} (a b : Option (Val A)) → cons_val a (some ends) ≡ cons_val b (some ends) → a ≡ b
unfolding cons_val
one_val none none e = refl
one_val none (some b) e = absurd (none_some e)
one_val (some a) none e = absurd (none_some (sym e))
one_val (some a) (some b) e = cc

-- what holds of a list of one holds of it
one_value_lem : {A : Type 0} (κ : Ctx A) (G E : Env A) (row : Option MirType) (y x : Value)
    → ((rows : ℕ → Option MirType) → eval_all κ.mean G rows (y ∷ []) ≡ eval_all κ.mean E rows (x ∷ []))
    → eval κ.mean G row y ≡ eval κ.mean E row x
unfolding eval_all
one_value_lem κ G E row y x h = one_val (eval κ.mean G row y) (eval κ.mean E row x) (h (λ k. row))

-- a Store does the same with equal reads
store_same : {A : Type 0} (κ : Ctx A) (p : Place) (x y : Value) (u : TypeId) (E G : Env A) (w : List (Val A)) → G p.base.0 ≡ E p.base.0
    → eval_steps κ.mean G p.projections ≡ eval_steps κ.mean E p.projections
    → eval κ.mean G (row_of κ.types (some u)) y ≡ eval κ.mean E (row_of κ.types (some u)) x
    → exec κ.mean κ.types (Store p y u) G w ≡ exec κ.mean κ.types (Store p x u) E w
unfolding exec
store_same κ p x y u E G w a b c = rw (a, b, c)

-- what the rebuilt Store reads
store_reads : (debug : Bool) (q : ValueId → Bool) (p : Place) (y : Value) (u : TypeId) → T (every q (counted_reads debug (Store p y u)))
    → T (every q (p.base ∷ (operands (indices p.projections) ++ operand y [])))
store_reads true q p y u t = t
store_reads false q p y u t = t

-- a Store behind the rebuild of its value
rebuilt_store : {A : Type 0} (κ : Ctx A) (φ : ValueId → Bool) (m : Meta) (p : Place) (x : Value) (u : TypeId) (is : List Instruction) (t : Terminator)
    (S : AggStates) (n : ℕ) (xs : List Value) → Sim κ φ is t → state_of S x ≡ some xs
    → (r : Rebuilt) → rebuild_all κ.types S n (record { value = x; at = some u } ∷ []) ≡ r → (y : Value) → r.values ≡ y ∷ []
    → SimP κ φ (at m (Store p x u)) is t S n (record { out = r.before ++ (at m (Store p y u) ∷ []); dropped = []; states = S; fresh = r.fresh; counts = no_counts; changed = true; fault = λ l. first_met (r.fault l) (full_fault (l + length r.before)) })
unfolding glue typed
rebuilt_store κ φ m p x u is t S n xs sim lk r er y ey E F w rec le tk ag g ok fn =
    let τ : Types = κ.types in
    let i : Instruction = at m (Store p x u) in
    let j : Instruction = at m (Store p y u) in
    let pc : Piece = record { out = r.before ++ (j ∷ []); dropped = []; states = S; fresh = r.fresh; counts = no_counts; changed = true; fault = λ l. first_met (r.fault l) (full_fault (l + length r.before)) } in
    let q = walks κ φ S (n + length r.fresh) is t in
    let dq : ValueId → Bool = λ v. not (κ.dr v.0) in
    let lq : ValueId → Bool = λ v. ltb v.0 κ.m in
    let is' = operands (indices p.projections) in
    let c1 = clean_l κ.mean.debug κ.dr (r.before ++ (j ∷ [])) q.out ok.reads in
    let c2 = store_reads κ.mean.debug dq p y u (clean_one κ.mean.debug κ.dr j [] (clean_r κ.mean.debug κ.dr r.before (j ∷ []) c1)) in
    let cb : T (dq p.base) = both_l (dq p.base) (every dq (is' ++ operand y [])) c2 in
    let ci = every_l dq is' (operand y []) (both_r (dq p.base) (every dq (is' ++ operand y [])) c2) in
    let cy = every_r dq is' (operand y []) (both_r (dq p.base) (every dq (is' ++ operand y [])) c2) in
    let l2 = reads_low κ i is t g in
    let lb : T (lq p.base) = both_l (lq p.base) (every lq (is' ++ operand x [])) l2 in
    let li = every_l lq is' (operand x []) (both_r (lq p.base) (every lq (is' ++ operand x [])) l2) in
    let lx = every_r lq is' (operand x []) (both_r (lq p.base) (every lq (is' ++ operand x [])) l2) in
    let ty : T (fits τ x (some u)) = both_l (fits τ x (some u)) (is_pointer (value_row τ p.base) || (is_aggregate (value_row τ p.base) && same_type (place_type τ (recorded_type τ p.base) p.projections) (some u))) (is_typed κ i is t g) in
    after_builds κ φ i j is t S n (length r.fresh) (x ∷ []) r E F w rec sim le tk ag g (ok_later κ n pc q ok)
    (λ v ys h. base_other τ v p.base (differ' κ.dr v p.base.0 cb (tk v ys h).gone))
    (rw er at (rebuilt κ S E (i ∷ is) tk (record { value = x; at = some u } ∷ []) (λ ys t' a b. fits_own ys t' b ty, tt) n F le ag lx
    (rw er (clean_l κ.mean.debug κ.dr r.before (j ∷ []) c1)) (rw er (recorded_l (retyped τ κ.later) n r.fresh q.fresh ok.fresh))))
    (λ G ag' tw. sym (exec_later κ.mean τ κ.later (Store p y u) G w (low_alike κ (p.base ∷ []) (both (lq p.base) true lb tt)))
    ∙ store_same κ p x y u E G w (sym (ag' p.base.0 lb cb)) (sym (eval_steps_same κ.mean E G p.projections (same_reads κ E G ag' is' li ci))) (one_value_lem κ G E (row_of τ (some u)) y x (λ rows. rw ey at (twins_eval κ.mean (retyped τ κ.later) E G (x ∷ []) r.values (tw (rw ey cy)) rows)))) fn
  where
    fits_own : (ys : List Value) (t' : TypeId) → some u ≡ some t' → T (fits κ.types x (some u)) → T (fits κ.types x (some t'))
    fits_own ys t' b f = let z : u ≡ t' = cc in rw (← z) f

-- so the pass's
stays_rebuilt : {A : Type 0} (κ : Ctx A) (φ : ValueId → Bool) (m : Meta) (p : Place) (x : Value) (u : TypeId) (is : List Instruction) (t : Terminator)
    (S : AggStates) (n : ℕ) (xs : List Value) → Sim κ φ is t → state_of S x ≡ some xs
    → SimP κ φ (at m (Store p x u)) is t S n (store_kept κ.types S n (at m (Store p x u)) p x u (some xs))
unfolding store_kept store_rebuilt rebuild_all one_value rebuild_value
stays_rebuilt κ φ m p x u is t S n xs sim lk =
    let τ : Types = κ.types in
    rw lk (rebuilt_store κ φ m p x u is t S n xs sim lk
    (rebuild_value τ n u xs (untouched [])) (rw lk) (Value.Operand (numbered n)) refl)

-- a Store whose value is not tracked
stays_whole : {A : Type 0} (κ : Ctx A) (φ : ValueId → Bool) (m : Meta) (p : Place) (x : Value) (u : TypeId) (is : List Instruction) (t : Terminator)
    (S : AggStates) (n : ℕ) → Sim κ φ is t
    → SimP κ φ (at m (Store p x u)) is t S n (store_kept κ.types S n (at m (Store p x u)) p x u none)
unfolding store_kept
stays_whole κ φ m p x u is t S n sim = sim_kept κ φ (at m (Store p x u)) is t S n sim

-- what is found behind something
behind_some : {B C : Type 0} (o : Option B) (p : Option C) (c : C) → on_some o (λ b. p) ≡ some c → p ≡ some c
unfolding on_some
behind_some none p c e = absurd (none_some e)
behind_some (some b) p c e = e

-- a Store that stays
kept_store : {A : Type 0} (κ : Ctx A) (φ : ValueId → Bool) (m : Meta) (p : Place) (x : Value) (u : TypeId) (is : List Instruction) (t : Terminator)
    (S : AggStates) (n : ℕ) → Sim κ φ is t
    → (o : Option (List Value)) → on_some (aggregate_type κ.types u) (λ a. state_of S x) ≡ o
    → SimP κ φ (at m (Store p x u)) is t S n (store_kept κ.types S n (at m (Store p x u)) p x u o)
kept_store κ φ m p x u is t S n sim none e = stays_whole κ φ m p x u is t S n sim
kept_store κ φ m p x u is t S n sim (some xs) e =
    stays_rebuilt κ φ m p x u is t S n xs sim (behind_some (aggregate_type κ.types u) (state_of S x) xs e)

-- ---- edition 1

-- a Store, by the setting
first_store : {A : Type 0} (κ : Ctx A) (φ : ValueId → Bool) (m : Meta) (p : Place) (x : Value) (u : TypeId) (is : List Instruction) (t : Terminator)
    (S : AggStates) (n : ℕ) → Sim κ φ is t → (b : Bool)
    → SimP κ φ (at m (Store p x u)) is t S n (guarded b (kept S (at m (Store p x u))) (store_kept κ.types S n (at m (Store p x u)) p x u (on_some (aggregate_type κ.types u) (λ a. state_of S x))))
unfolding guarded
first_store κ φ m p x u is t S n sim true = kept_store κ φ m p x u is t S n sim (on_some (aggregate_type κ.types u) (λ a. state_of S x)) refl
first_store κ φ m p x u is t S n sim false = sim_kept κ φ (at m (Store p x u)) is t S n sim

-- what stays in edition 1
pub sim_first : {A : Type 0} (κ : Ctx A) (φ : ValueId → Bool) (m : Meta) (k : InstructionKind) (is : List Instruction) (t : Terminator) (S : AggStates)
    (n : ℕ) → Sim κ φ is t → SimP κ φ (at m k) is t S n (stays_first κ.set κ.types S n (at m k) k)
unfolding stays_first
sim_first κ φ m (Assign d x u) is t S n sim = sim_kept κ φ (at m (Assign d x u)) is t S n sim
sim_first κ φ m (UnaryOp op d x) is t S n sim = sim_kept κ φ (at m (UnaryOp op d x)) is t S n sim
sim_first κ φ m (BinaryOp op d x y) is t S n sim = sim_kept κ φ (at m (BinaryOp op d x y)) is t S n sim
sim_first κ φ m (Call ds f xs ps rs) is t S n sim = call_go κ φ m ds f xs ps rs is t S n sim (rebuild_all κ.types S n (wanted_arguments κ.types xs ps)).fresh refl
sim_first κ φ m (Cast d x u v) is t S n sim = sim_kept κ φ (at m (Cast d x u v)) is t S n sim
sim_first κ φ m (Load d p u) is t S n sim = sim_kept κ φ (at m (Load d p u)) is t S n sim
sim_first κ φ m (Store p x u) is t S n sim = first_store κ φ m p x u is t S n sim κ.set.tuples
sim_first κ φ m (Debug a xs) is t S n sim = sim_kept κ φ (at m (Debug a xs)) is t S n sim
sim_first κ φ m Nop is t S n sim = sim_kept κ φ (at m Nop) is t S n sim
sim_first κ φ m (Phi d u ss) is t S n sim = sim_kept κ φ (at m (Phi d u ss)) is t S n sim
sim_first κ φ m (MakeTuple d xs) is t S n sim = sim_kept κ φ (at m (MakeTuple d xs)) is t S n sim
sim_first κ φ m (ExtractTupleElement d x k u) is t S n sim = sim_kept κ φ (at m (ExtractTupleElement d x k u)) is t S n sim
sim_first κ φ m (MakeStruct d fs u) is t S n sim = sim_kept κ φ (at m (MakeStruct d fs u)) is t S n sim
sim_first κ φ m (ExtractStructField d x f u) is t S n sim = sim_kept κ φ (at m (ExtractStructField d x f u)) is t S n sim
sim_first κ φ m (InsertField d x f y u) is t S n sim = sim_kept κ φ (at m (InsertField d x f y u)) is t S n sim
sim_first κ φ m (InsertTuple d x k y u) is t S n sim = sim_kept κ φ (at m (InsertTuple d x k y u)) is t S n sim
sim_first κ φ m (MakeFixedArray d xs u c) is t S n sim = sim_kept κ φ (at m (MakeFixedArray d xs u c)) is t S n sim
sim_first κ φ m (AssertEq x y) is t S n sim = sim_kept κ φ (at m (AssertEq x y)) is t S n sim
sim_first κ φ m (HeapAllocCells d x) is t S n sim = sim_kept κ φ (at m (HeapAllocCells d x)) is t S n sim
