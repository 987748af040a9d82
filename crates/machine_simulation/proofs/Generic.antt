-- The simulation of the rest of a block, stated, and its general cases.
use mathlib.Core.Path.{◌≡◌}
use Prim.Native.Nat.{ℕ, suc, ◌+◌, ◌≤◌}
use mathlib.Core.Bool.{Bool, not}
use mathlib.Core.Option.{some}
use mathlib.Core.List.{List, [], ◌∷◌, ◌++◌}
use native.Mathlib.Nat.{add-zero, add-suc, suc-add}
use lib.Dec.{T, ltb}
use lib.ListN.{length}
use Rattle.mir.specs.declared.ValueId.{ValueId}
use Rattle.mir.specs.declared.TypeId.{TypeId}
use Rattle.mir.specs.declared.BlockId.{BlockId}
use Rattle.mir.specs.declared.Value.{Value}
use Rattle.mir.specs.Syntax.{Instruction, Terminator}
use Rattle.mir.specs.Reads.{reads, dests, terminator_reads}
use Rattle.mir.specs.Lists.{Each}
use Rattle.mir.specs.Lookup.{Types, recorded_type}
use Rattle.rewrite.specs.State.{AggStates}
use Rattle.rewrite.specs.Piece.{Piece}
use Rattle.rewrite.specs.Run.{Walked, glue, walk}
use Rattle.machine.specs.Values.{Val}
use Rattle.machine.specs.Records.{Env, write_all, Event, End, Cause, Out, goes, ends, stops, Left, next, log}
use Rattle.machine.specs.Records as R
use Rattle.machine.specs.Exec.{exec}
use Rattle.machine.specs.Run.{onward, exec_all}
use Rattle.shelf.specs.Lists.{every, among}
use Rattle.machine_simulation.specs.Typing.{typed}
use Rattle.shelf.specs.Reads.{counted_reads, ordered, apart, shallow, clean, clean_terminator}
use Rattle.machine_simulation.specs.Static.{below, once}
use Rattle.machine_simulation.specs.Statement.{FineCause}
use Rattle.machine_simulation.proofs.Tools.{both_l, both_r, both, every_r, every_two→Each}
use Rattle.machine_simulation.proofs.Frame.{Same, changes, write_both}
use Rattle.machine_simulation.proofs.Retype.{retyped, Alike}
use Rattle.machine_simulation.proofs.Invariant.{numbered, Ctx, Tracks, Agree, tracked_on}

-- the block did not stop at an unwritten value or a missing part
unfoldable pub FineLeft : {A : Type 0} → Left A → Type 0
FineLeft (next b E w rec) = Unit {0}
FineLeft (R.over e rec) = Unit {0}
FineLeft (R.halt c rec) = FineCause c

-- the two ends of a block
pub data Match {A : Type 0} (κ : Ctx A) : Left A → Left A → Type 0 where
  on : (b : BlockId) (E F : Env A) (w : List (Val A)) (rec : List (Event A)) → Agree κ E F → Match κ (next b E w rec) (next b F w rec)
  over : (e : End) (rec : List (Event A)) → Match κ (R.over e rec) (R.over e rec)
  halt : (c : Cause) (rec : List (Event A)) → Match κ (R.halt c rec) (R.halt c rec)

-- what the tests say of the rest of a block
pub record Good {A : Type 0} (κ : Ctx A) (is : List Instruction) (t : Terminator) : Type 0 where
  pub order : T (ordered κ.mean.debug is)
  pub single : T (once is)
  pub low : T (below κ.m is)
  pub low_end : T (every (λ v. ltb v.0 κ.m) (terminator_reads t))
  pub stores : T (apart κ.sb is)
  pub bases : T (every (λ i. every (λ v. κ.sb v.0) (changes κ.types i.kind)) is)
  pub types : T (every (λ i. typed κ.types i.kind) is)
  pub deeps : T (every (λ i. shallow κ.dr i.kind) is)

-- the tests of the rest of the rest
pub good_later : {A : Type 0} (κ : Ctx A) (i : Instruction) (is : List Instruction) (t : Terminator) → Good κ (i ∷ is) t → Good κ is t
unfolding ordered once below apart
good_later κ i is t g =
    record {
      order = search (both_l, both_r);
      single = search (both_l, both_r);
      low = search (both_l, both_r);
      low_end = g.low_end;
      stores = search (both_l, both_r);
      bases = search (both_l, both_r);
      types = search (both_l, both_r);
      deeps = search (both_l, both_r);
    }

-- the fresh numbers are recorded at their types
abbrev pub Recorded : Types → ℕ → List TypeId → Type 0
Recorded τ n [] = Unit {0}
Recorded τ n (t ∷ ts) = (recorded_type τ (numbered n) ≡ some t) × Recorded τ (suc n) ts

-- the first fresh numbers
pub recorded_l : (τ : Types) (n : ℕ) (a b : List TypeId) → Recorded τ n (a ++ b) → Recorded τ n a
recorded_l τ n [] b h = tt
recorded_l τ n (t ∷ a) b h = (h.0, recorded_l τ (suc n) a b h.1)

-- and those behind them
pub recorded_r : (τ : Types) (n : ℕ) (a b : List TypeId) → Recorded τ n (a ++ b) → Recorded τ (n + length a) b
recorded_r τ n [] b h = rw (add-zero n) h
recorded_r τ n (t ∷ a) b h = rw (add-suc n (length a)) (rw (suc-add n (length a)) at (recorded_r τ (suc n) a b h.1))

-- and of what came out of it
pub record OkOut {A : Type 0} (κ : Ctx A) (n : ℕ) (w : Walked) : Type 0 where
  pub reads : T (clean κ.mean.debug κ.dr w.out)
  pub reads_end : T (clean_terminator κ.dr w.terminator)
  pub drops : T (every (λ v. κ.dr v.0) w.dropped)
  pub fresh : Recorded (retyped κ.types κ.later) n w.fresh

-- the original's rest of a block
abbrev pub runs : {A : Type 0} → Ctx A → List Instruction → Terminator → Env A → List (Val A) → List (Event A) → Left A
runs κ is t E w rec = exec_all κ.mean κ.types is t E w rec

-- the rewritten one's
abbrev pub reruns : {A : Type 0} → Ctx A → List Instruction → Terminator → Env A → List (Val A) → List (Event A) → Left A
reruns κ is t E w rec = exec_all κ.mean (retyped κ.types κ.later) is t E w rec

-- what the pass makes of it
abbrev pub walks : {A : Type 0} → Ctx A → (ValueId → Bool) → AggStates → ℕ → List Instruction → Terminator → Walked
walks κ φ S n is t = walk κ.set κ.types φ S n is t

-- an instruction, and the rest of the block behind it
abbrev pub runs_from : {A : Type 0} → Ctx A → Out A → List Instruction → Terminator → Env A → List (Event A) → Left A
runs_from κ o is t E rec = onward o E rec (λ E' w' rec'. exec_all κ.mean κ.types is t E' w' rec')

-- what an instruction does in the original
abbrev pub does : {A : Type 0} → Ctx A → Instruction → Env A → List (Val A) → Out A
does κ i E w = exec κ.mean κ.types i.kind E w

-- the rest of a block does what its rewriting does
abbrev pub Sim : {A : Type 0} → Ctx A → (ValueId → Bool) → List Instruction → Terminator → Type 0
Sim {A} κ φ is t = (S : AggStates) (n : ℕ) (E F : Env A) (w : List (Val A)) (rec : List (Event A)) → κ.m ≤ n → Tracks κ S E is → Agree κ E F → Good κ is t
    → OkOut κ n (walks κ φ S n is t) → FineLeft (runs κ is t E w rec)
    → Match κ (runs κ is t E w rec) (reruns κ (walks κ φ S n is t).out (walks κ φ S n is t).terminator F w rec)

-- the same where one instruction came out as a piece
abbrev pub SimP : {A : Type 0} → Ctx A → (ValueId → Bool) → Instruction → List Instruction → Terminator → AggStates → ℕ → Piece → Type 0
SimP {A} κ φ i is t S n p = (E F : Env A) (w : List (Val A)) (rec : List (Event A)) → κ.m ≤ n → Tracks κ S E (i ∷ is) → Agree κ E F → Good κ (i ∷ is) t
    → OkOut κ n (glue p (walks κ φ p.states (n + length p.fresh) is t)) → FineLeft (runs_from κ (does κ i E w) is t E rec)
    → Match κ (runs_from κ (does κ i E w) is t E rec)
    (reruns κ (p.out ++ (walks κ φ p.states (n + length p.fresh) is t).out) (walks κ φ p.states (n + length p.fresh) is t).terminator F w rec)

-- reason 5 of what stands in front
pub clean_l : (b : Bool) (dr : ℕ → Bool) (is js : List Instruction) → T (clean b dr (is ++ js)) → T (clean b dr is)
unfolding clean
clean_l b dr [] js t = tt
clean_l b dr (i ∷ is) js t =
    both (every (λ v. not (dr v.0)) (counted_reads b i.kind)) (clean b dr is) (both_l (every (λ v. not (dr v.0)) (counted_reads b i.kind)) (clean b dr (is ++ js)) t)
    (clean_l b dr is js (both_r (every (λ v. not (dr v.0)) (counted_reads b i.kind)) (clean b dr (is ++ js)) t))

-- and of what stands behind
pub clean_r : (b : Bool) (dr : ℕ → Bool) (is js : List Instruction) → T (clean b dr (is ++ js)) → T (clean b dr js)
unfolding clean
clean_r b dr [] js t = t
clean_r b dr (i ∷ is) js t = clean_r b dr is js (both_r (every (λ v. not (dr v.0)) (counted_reads b i.kind)) (clean b dr (is ++ js)) t)

-- and of the first
pub clean_one : (b : Bool) (dr : ℕ → Bool) (i : Instruction) (is : List Instruction) → T (clean b dr (i ∷ is))
    → T (every (λ v. not (dr v.0)) (counted_reads b i.kind))
unfolding clean
clean_one b dr i is t = both_l (every (λ v. not (dr v.0)) (counted_reads b i.kind)) (clean b dr is) t

-- the tests of what came out of the rest
pub ok_later : {A : Type 0} (κ : Ctx A) (n : ℕ) (p : Piece) (w : Walked) → OkOut κ n (glue p w) → OkOut κ (n + length p.fresh) w
unfolding glue
ok_later κ n p w o =
    record {
      reads = clean_r κ.mean.debug κ.dr p.out w.out o.reads;
      reads_end = o.reads_end;
      drops = every_r (λ v. κ.dr v.0) p.dropped w.dropped o.drops;
      fresh = recorded_r (retyped κ.types κ.later) n p.fresh w.fresh o.fresh;
    }

-- the base that an instruction changes is known as one
pub bases_ok : {A : Type 0} (κ : Ctx A) (i : Instruction) (is : List Instruction) (t : Terminator) → Good κ (i ∷ is) t
    → T (every (λ v. κ.sb v.0) (changes κ.types i.kind))
bases_ok κ i is t g = search (both_l, both_r)

-- what it reads is below next
pub reads_low : {A : Type 0} (κ : Ctx A) (i : Instruction) (is : List Instruction) (t : Terminator) → Good κ (i ∷ is) t
    → T (every (λ v. ltb v.0 κ.m) (reads i.kind))
unfolding below
reads_low κ i is t g = search (both_l, both_r)

-- what it defines is below next
pub dests_low : {A : Type 0} (κ : Ctx A) (i : Instruction) (is : List Instruction) (t : Terminator) → Good κ (i ∷ is) t
    → T (every (λ v. ltb v.0 κ.m) (dests i.kind))
unfolding below
dests_low κ i is t g = search (both_l, both_r)

-- reads of nothing fresh and nothing dropped are alike on both sides
pub same_reads : {A : Type 0} (κ : Ctx A) (E F : Env A) → Agree κ E F → (vs : List ValueId) → T (every (λ v. ltb v.0 κ.m) vs)
    → T (every (λ v. not (κ.dr v.0)) vs) → Each (Same E F) vs
same_reads κ E F ag vs s t = every_two→Each (λ v. ltb v.0 κ.m) (λ v. not (κ.dr v.0)) (Same E F) (λ v a b. ag v.0 a b) vs s t

-- what is below next has the same recorded type in both
pub low_alike : {A : Type 0} (κ : Ctx A) (vs : List ValueId) → T (every (λ v. ltb v.0 κ.m) vs) → Each (Alike κ.types κ.later) vs
low_alike κ vs t = every_two→Each (λ v. ltb v.0 κ.m) (λ v. ltb v.0 κ.m) (Alike κ.types κ.later) (λ v a b. κ.alike v a) vs t t

-- both sides have made the step with one outcome, and go on
pub resume : {A : Type 0} (κ : Ctx A) (φ : ValueId → Bool) (i : Instruction) (is : List Instruction) (t : Terminator) (S : AggStates) (n : ℕ)
    (E F : Env A) (w : List (Val A)) (rec : List (Event A)) → Sim κ φ is t → κ.m ≤ n
    → Tracks κ S E (i ∷ is) → Agree κ E F → Good κ (i ∷ is) t → OkOut κ n (walks κ φ S n is t)
    → ((v : ℕ) (xs : List Value) → S v ≡ some xs → T (not (among v (changes κ.types i.kind))))
    → (o : Out A) → does κ i E w ≡ o → FineLeft (runs_from κ o is t E rec)
    → Match κ (runs_from κ o is t E rec)
    (onward o F rec (λ E' w' rec'. reruns κ (walks κ φ S n is t).out (walks κ φ S n is t).terminator E' w' rec'))
unfolding onward
resume κ φ i is t S n E F w rec sim le tr ag g ok hb (goes ws w' ev) e f =
    sim S n (write_all ws E) (write_all ws F) w' (log ev rec) le
    (λ v xs h. tracked_on κ i is E w w' ws ev e (bases_ok κ i is t g) v xs (hb v xs h) (tr v xs h))
    (λ x lo nd. write_both ws E F x (ag x lo nd)) (good_later κ i is t g) ok f
resume κ φ i is t S n E F w rec sim le tr ag g ok hb (ends x ev) e f = over x (log ev rec)
resume κ φ i is t S n E F w rec sim le tr ag g ok hb (stops c ev) e f = halt c (log ev rec)
