-- What stands behind rebuilds: a Call.
use mathlib.Core.Path.{◌≡◌, refl, sym, ap, ◌∙◌}
use Prim.Native.Nat.{ℕ, ◌+◌, ◌≤◌}
use mathlib.Core.Bool.{Bool, true, false, not}
use mathlib.Core.Option.{Option, some}
use mathlib.Core.List.{List, [], ◌∷◌, ◌++◌, append_assoc}
use native.Mathlib.Omega.{arith}
use lib.Dec.{T}
use lib.ListN.{length}
use Rattle.mir.specs.declared.ValueId.{ValueId}
use Rattle.mir.specs.declared.TypeId.{TypeId}
use Rattle.mir.specs.declared.Value.{Value}
use Rattle.mir.specs.MirType.{MirType}
use Rattle.mir.specs.Syntax.{Meta, Instruction, Terminator, Call, plain}
use Rattle.mir.specs.Reads.{operands}
use Rattle.mir.specs.Lists.{Each}
use Rattle.mir.specs.Lookup.{Types}
use Rattle.rewrite.specs.State.{AggStates}
use Rattle.rewrite.specs.Rebuild.{Rebuilt, Wanted, rebuild_all, wanted_arguments}
use Rattle.rewrite.specs.Stays.{step_call}
use Rattle.rewrite.specs.Run.{glue}
use Rattle.machine.specs.Values.{Val}
use Rattle.machine.specs.Records.{Env, Event}
use Rattle.machine.specs.Places.{argument_row}
use Rattle.machine.specs.Evaluate.{eval_all}
use Rattle.machine.specs.Exec.{exec}
use Rattle.machine.specs.Run.{onward, exec_all}
use Rattle.shelf.specs.Lists.{every, among}
use Rattle.shelf.specs.Fits.{fits, arguments_fit}
use Rattle.machine_simulation.specs.Typing.{typed}
use Rattle.shelf.specs.Reads.{counted_reads}
use Rattle.machine_simulation.proofs.Tools.{both_l, both_r}
use Rattle.machine_simulation.proofs.Frame.{changes, changed_base}
use Rattle.machine_simulation.proofs.Retype.{retyped, Alike, exec_later}
use Rattle.machine_simulation.proofs.Invariant.{Ctx, Tracks, Agree}
use Rattle.machine_simulation.proofs.Generic.{FineLeft, Match, Good, OkOut, ok_later, recorded_l, reruns, walks, runs_from, does, Sim, SimP, clean_l, clean_r, clean_one, reads_low, dests_low, low_alike, resume}
use Rattle.machine_simulation.proofs.Cases.{sim_kept, is_typed, at}
use Rattle.machine_simulation.proofs.Rebuilds.{wanted_values, AtOwn, Ran, ran, agree_same, rebuilt, aggregate_own}
use Rattle.machine_simulation.proofs.Twins.{Twins, twins_eval}

-- the first of several instructions
exec_cons : {A : Type 0} (κ : Ctx A) (i : Instruction) (is : List Instruction) (t : Terminator) (E : Env A) (w : List (Val A)) (rec : List (Event A))
    → reruns κ (i ∷ is) t E w rec ≡ onward (exec κ.mean (retyped κ.types κ.later) i.kind E w) E rec (λ E' w' rec'. reruns κ is t E' w' rec')
unfolding exec_all
exec_cons κ i is t E w rec = refl

-- `i` came out as rebuilds and `j`, which then does what `i` does
pub after_builds : {A : Type 0} (κ : Ctx A) (φ : ValueId → Bool) (i j : Instruction) (is : List Instruction) (t : Terminator) (S : AggStates)
    (n k : ℕ) (xs : List Value) (r : Rebuilt) (E F : Env A) (w : List (Val A)) (rec : List (Event A)) → Sim κ φ is t → κ.m ≤ n
    → Tracks κ S E (i ∷ is) → Agree κ E F → Good κ (i ∷ is) t → OkOut κ (n + k) (walks κ φ S (n + k) is t)
    → ((v : ℕ) (ys : List Value) → S v ≡ some ys → T (not (among v (changes κ.types i.kind))))
    → Ran κ n xs r E F
    → ((G : Env A) → Agree κ E G → (T (every (λ v. not (κ.dr v.0)) (operands r.values)) → Twins κ.mean (retyped κ.types κ.later) E G xs r.values) → exec κ.mean (retyped κ.types κ.later) j.kind G w ≡ does κ i E w)
    → FineLeft (runs_from κ (does κ i E w) is t E rec)
    → Match κ (runs_from κ (does κ i E w) is t E rec)
    (reruns κ ((r.before ++ (j ∷ [])) ++ (walks κ φ S (n + k) is t).out) (walks κ φ S (n + k) is t).terminator F w rec)
after_builds κ φ i j is t S n k xs r E F w rec sim le tk ag g ok hb (ran G sm tw rn) same f =
    let q = walks κ φ S (n + k) is t in
    let ag' = agree_same κ n E F G le ag sm in
    rw (append_assoc r.before (j ∷ []) q.out) (rw (rn (j ∷ q.out) q.terminator w rec) (rw (exec_cons κ j q.out q.terminator G w rec) (rw (same G ag' tw)
    (resume κ φ i is t S (n + k) E G w rec sim (omega arith) tk ag' g ok hb (does κ i E w) refl f))))

-- ---- a Call

-- the values asked for are the arguments
pub call_values : (τ : Types) (xs : List Value) (ps : List TypeId) → wanted_values (wanted_arguments τ xs ps) ≡ xs
unfolding wanted_arguments
call_values τ [] ps = refl
call_values τ (x ∷ xs) [] = ap (λ (l : List Value). x ∷ l) (call_values τ xs [])
call_values τ (x ∷ xs) (p ∷ ps) = ap (λ (l : List Value). x ∷ l) (call_values τ xs ps)

-- each argument fits the type that it is rebuilt at
pub call_own : (τ : Types) (S : AggStates) (xs : List Value) (ps : List TypeId) → T (arguments_fit τ xs ps) → AtOwn τ S (wanted_arguments τ xs ps)
unfolding wanted_arguments arguments_fit
call_own τ S [] [] h = tt
call_own τ S [] (p ∷ ps) h = tt
call_own τ S (x ∷ xs) [] h = absurd h
call_own τ S (x ∷ xs) (p ∷ ps) h =
    (λ ys t a b. rw (← (aggregate_own τ p t b)) (both_l (fits τ x (some p)) (arguments_fit τ xs ps) h), call_own τ S xs ps (both_r (fits τ x (some p)) (arguments_fit τ xs ps) h))

-- a Call does the same with equal arguments
arguments_same : {A : Type 0} (κ : Ctx A) (ds : List ValueId) (f : ℕ) (xs ys : List Value) (ps rs : List TypeId) (E G : Env A) (w : List (Val A))
    → ((rows : ℕ → Option MirType) → eval_all κ.mean G rows ys ≡ eval_all κ.mean E rows xs)
    → exec κ.mean κ.types (Call ds f ys ps rs) G w ≡ exec κ.mean κ.types (Call ds f xs ps rs) E w
unfolding exec
arguments_same κ ds f xs ys ps rs E G w vl = rw (vl (argument_row κ.types ps))

-- and so under the rewritten routine's types
call_same : {A : Type 0} (κ : Ctx A) (m : Meta) (ds : List ValueId) (f : ℕ) (xs ys : List Value) (ps rs : List TypeId) (E G : Env A)
    (w : List (Val A)) → Each (Alike κ.types κ.later) ds
    → ((rows : ℕ → Option MirType) → eval_all κ.mean G rows ys ≡ eval_all κ.mean E rows xs)
    → exec κ.mean (retyped κ.types κ.later) (Call ds f ys ps rs) G w ≡ does κ (at m (Call ds f xs ps rs)) E w
call_same κ m ds f xs ys ps rs E G w al vl = sym (exec_later κ.mean κ.types κ.later (Call ds f ys ps rs) G w al) ∙ arguments_same κ ds f xs ys ps rs E G w vl

-- a Call reads its arguments
clean_call : (debug : Bool) (dr : ℕ → Bool) (ds : List ValueId) (f : ℕ) (ys : List Value) (ps rs : List TypeId)
    → T (every (λ v. not (dr v.0)) (counted_reads debug (Call ds f ys ps rs))) → T (every (λ v. not (dr v.0)) (operands ys))
clean_call true dr ds f ys ps rs t = t
clean_call false dr ds f ys ps rs t = t

-- a Call: kept, or built anew behind rebuilds
pub call_go : {A : Type 0} (κ : Ctx A) (φ : ValueId → Bool) (m : Meta) (ds : List ValueId) (f : ℕ) (xs : List Value) (ps rs : List TypeId)
    (is : List Instruction) (t : Terminator) (S : AggStates) (n : ℕ) → Sim κ φ is t
    → (us : List TypeId) → (rebuild_all κ.types S n (wanted_arguments κ.types xs ps)).fresh ≡ us
    → SimP κ φ (at m (Call ds f xs ps rs)) is t S n (step_call S (at m (Call ds f xs ps rs)) ds f ps rs (rebuild_all κ.types S n (wanted_arguments κ.types xs ps)) us)
unfolding step_call glue changed_base typed
call_go κ φ m ds f xs ps rs is t S n sim [] e = sim_kept κ φ (at m (Call ds f xs ps rs)) is t S n sim
call_go κ φ m ds f xs ps rs is t S n sim (u ∷ us) e = λ E F w rec le tk ag g ok fn.
    let τ : Types = κ.types in
    let i : Instruction = at m (Call ds f xs ps rs) in
    let ws : List Wanted = wanted_arguments τ xs ps in
    let r = rebuild_all τ S n ws in
    let j : Instruction = plain (Call ds f r.values ps rs) in
    let q = walks κ φ S (n + length (u ∷ us)) is t in
    let c1 = clean_l κ.mean.debug κ.dr (r.before ++ (j ∷ [])) q.out ok.reads in
    after_builds κ φ i j is t S n (length (u ∷ us)) (wanted_values ws) r E F w rec sim le tk ag g (ok_later κ n (step_call S i ds f ps rs r (u ∷ us)) q ok) (λ v ys h. tt)
    (rebuilt κ S E (i ∷ is) tk ws (call_own τ S xs ps (is_typed κ i is t g)) n F le ag (rw (call_values τ xs ps) (reads_low κ i is t g))
    (clean_l κ.mean.debug κ.dr r.before (j ∷ []) c1)
    (rw e (recorded_l (retyped τ κ.later) n (u ∷ us) q.fresh ok.fresh)))
    (λ G ag' tw. call_same κ m ds f xs r.values ps rs E G w (low_alike κ ds (dests_low κ i is t g)) (λ rows. twins_eval κ.mean (retyped τ κ.later) E G (wanted_values ws) r.values
    (tw (clean_call κ.mean.debug κ.dr ds f r.values ps rs (clean_one κ.mean.debug κ.dr j [] (clean_r κ.mean.debug κ.dr r.before (j ∷ []) c1)))) rows ∙ ap (eval_all κ.mean E rows) (call_values τ xs ps))) fn
