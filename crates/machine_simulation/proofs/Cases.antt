-- The general cases: an instruction that stays or is replaced, and one that is left out.
use mathlib.Core.Path.{◌≡◌, refl, sym, ap, ◌∙◌}
use Prim.Native.Nat.{ℕ, ◌+◌, ◌≤◌}
use mathlib.Core.Bool.{Bool, true, false, cond, not}
use mathlib.Core.Option.{Option, none, some}
use mathlib.Core.List.{List, [], ◌∷◌}
use native.Mathlib.Nat.{add-zero}
use lib.Dec.{T, eqb, eqb→eq, ltb}
use Rattle.mir.specs.declared.ValueId.{ValueId}
use Rattle.mir.specs.declared.TypeId.{TypeId}
use Rattle.mir.specs.declared.Value.{Value}
use Rattle.mir.specs.MirType.{MirType}
use Rattle.mir.specs.Syntax.{Instruction, InstructionKind, Terminator, Assign, UnaryOp, BinaryOp, Call, Cast, Load, Store, Debug, Nop, Phi}
use Rattle.mir.specs.Syntax.{MakeTuple, ExtractTupleElement, MakeStruct, ExtractStructField, InsertField, InsertTuple, MakeFixedArray, AssertEq, HeapAllocCells, Meta}
use Rattle.mir.specs.Reads.{reads, dests}
use Rattle.mir.specs.Lists.{Each}
use Rattle.mir.specs.Lookup.{Types, row_of, recorded_type, value_row}
use Rattle.rewrite.specs.State.{AggStates, insert_state, state_of}
use Rattle.rewrite.specs.declared.Counts.{Counts}
use Rattle.rewrite.specs.Fault.{full_fault}
use Rattle.rewrite.specs.Piece.{Piece, no_counts, kept, left, tracked}
use Rattle.rewrite.specs.Run.{Walked, glue}
use Rattle.machine.specs.Values.{Val, Vals, aggregate}
use Rattle.machine.specs.Records.{Env, write, write_all, Event, Cause, goes, stops, log}
use Rattle.mir.specs.Parts.{is_pointer}
use Rattle.machine.specs.Places.{part_row}
use Rattle.machine.specs.Evaluate.{eval, eval_all}
use Rattle.machine.specs.Exec.{exec}
use Rattle.machine.specs.Run.{onward, exec_all}
use Rattle.shelf.specs.Lists.{every, among}
use Rattle.shelf.specs.Fits.{same_type, fits}
use Rattle.machine_simulation.specs.Typing.{Whole, typed}
use Rattle.shelf.specs.Reads.{counted_reads, defined_in, ordered, parts_taken, apart}
use Rattle.shelf.proofs.Flag.{counted_of, reads_aside}
use Rattle.machine_simulation.specs.Static.{once}
use Rattle.machine_simulation.specs.Statement.{FineCause}
use Rattle.machine_simulation.proofs.Tools.{both_l, both_r, nor_i, none_some, split, passes, fails, cond_yes, change_other, change_same, differ, differ'}
use Rattle.machine_simulation.proofs.Frame.{changed_base, changes, exec_same}
use Rattle.machine_simulation.proofs.Retype.{retyped, Alike, looks, looks_in, exec_later}
use Rattle.machine_simulation.proofs.Invariant.{Ctx, Parts, Tracked, Tracks, Agree, kept_values, parts_later, tracked_on}
use Rattle.machine_simulation.proofs.Generic.{FineLeft, Match, Good, good_later, OkOut, ok_later, reruns, walks, runs_from, does, Sim, SimP, clean_one, bases_ok, reads_low, dests_low, same_reads, low_alike, resume}

-- an instruction from its kind and what stands beside it
abbrev pub at : Meta → InstructionKind → Instruction
at m k = record { meta = m; kind = k }

-- one instruction put out, and nothing tracked
abbrev pub alone : Counts → Bool → AggStates → Instruction → Piece
alone c b S j = record { out = j ∷ []; dropped = []; states = S; fresh = []; counts = c; changed = b; fault = full_fault }

-- no fresh number is taken
pub more : (m n : ℕ) → m ≤ n → m ≤ n + 0
more m n le = rw (add-zero n) le

-- the instruction `i` came out as `j`, which does the same
pub replaced : {A : Type 0} (κ : Ctx A) (φ : ValueId → Bool) (i j : Instruction) (is : List Instruction) (t : Terminator) (S : AggStates) (n : ℕ)
    (c : Counts) (b : Bool) → Sim κ φ is t
    → ((E : Env A) (w : List (Val A)) → Tracks κ S E (i ∷ is) → Good κ (i ∷ is) t → does κ i E w ≡ does κ j E w)
    → ((E : Env A) → Tracks κ S E (i ∷ is) → Good κ (i ∷ is) t → T (every (λ v. ltb v.0 κ.m) (reads j.kind)))
    → (Good κ (i ∷ is) t → Each (Alike κ.types κ.later) (looks j.kind))
    → ((E : Env A) → Tracks κ S E (i ∷ is) → T (every (λ v. not (κ.dr v.0)) (counted_reads κ.mean.debug j.kind)) → (v : ℕ) (xs : List Value) → S v ≡ some xs → T (not (among v (changes κ.types i.kind))))
    → SimP κ φ i is t S n (alone c b S j)
unfolding glue exec_all
replaced κ φ i j is t S n c b sim same low look hb E F w rec le tr ag g ok f =
    let ud : T (every (λ v. not (κ.dr v.0)) (counted_reads κ.mean.debug j.kind)) = clean_one κ.mean.debug κ.dr j (walks κ φ S (n + 0) is t).out ok.reads in
    let lo : T (every (λ v. ltb v.0 κ.m) (counted_reads κ.mean.debug j.kind)) = counted_of (λ v. ltb v.0 κ.m) κ.mean.debug j.kind (low E tr g) in
    let e : exec κ.mean (retyped κ.types κ.later) j.kind F w ≡ does κ i E w =
    sym (same E w tr g ∙ exec_same κ.mean κ.types j.kind E F w (same_reads κ E F ag (counted_reads κ.mean.debug j.kind) lo ud) ∙ exec_later κ.mean κ.types κ.later j.kind F w (look g)) in
    rw e (resume κ φ i is t S (n + 0) E F w rec sim (more κ.m n le) tr ag g (ok_later κ n (alone c b S j) (walks κ φ S (n + 0) is t) ok) (hb E tr ud) (does κ i E w) refl f)

-- a base that is not x, changed or not
pub base_other : (τ : Types) (x : ℕ) (b : ValueId) → T (not (eqb x b.0)) → T (not (among x (changed_base τ (some b))))
unfolding changed_base
base_other τ x b t = either (is_pointer (value_row τ b))
  where
    either : (p : Bool) → T (not (among x (cond p [] (b ∷ []))))
    either true = tt
    either false = nor_i (eqb x b.0) false t tt

-- a base that is read is not dropped
pub base_read : (τ : Types) (i : InstructionKind) (debug : Bool) (dr : ℕ → Bool) (x : ℕ) → T (dr x)
    → T (every (λ v. not (dr v.0)) (counted_reads debug i)) → T (not (among x (changes τ i)))
unfolding changed_base
base_read τ (Assign d v u) debug dr x s t = tt
base_read τ (UnaryOp op d v) debug dr x s t = tt
base_read τ (BinaryOp op d u v) debug dr x s t = tt
base_read τ (Call ds f xs ps rs) debug dr x s t = tt
base_read τ (Cast d v u r) debug dr x s t = tt
base_read τ (Load d p u) debug dr x s t = tt
base_read τ (Store p v u) true dr x s t = base_other τ x p.base (differ' dr x p.base.0 (both_l (not (dr p.base.0)) _ t) s)
base_read τ (Store p v u) false dr x s t = base_other τ x p.base (differ' dr x p.base.0 (both_l (not (dr p.base.0)) _ t) s)
base_read τ (Debug m xs) debug dr x s t = tt
base_read τ Nop debug dr x s t = tt
base_read τ (Phi d u ss) debug dr x s t = tt
base_read τ (MakeTuple d xs) debug dr x s t = tt
base_read τ (ExtractTupleElement d v k u) debug dr x s t = tt
base_read τ (MakeStruct d fs u) debug dr x s t = tt
base_read τ (ExtractStructField d v n u) debug dr x s t = tt
base_read τ (InsertField d v n y u) debug dr x s t = tt
base_read τ (InsertTuple d v k y u) debug dr x s t = tt
base_read τ (MakeFixedArray d xs u c) debug dr x s t = tt
base_read τ (AssertEq u v) debug dr x s t = tt
base_read τ (HeapAllocCells d v) debug dr x s t = tt

-- an instruction of the original looks at nothing fresh
pub looks_low : {A : Type 0} (κ : Ctx A) (i : Instruction) (is : List Instruction) (t : Terminator) → Good κ (i ∷ is) t
    → Each (Alike κ.types κ.later) (looks i.kind)
looks_low κ i is t g =
    looks_in (Alike κ.types κ.later) i.kind (low_alike κ (reads i.kind) (reads_low κ i is t g)) (low_alike κ (dests i.kind) (dests_low κ i is t g))

-- an instruction that is kept
pub sim_kept : {A : Type 0} (κ : Ctx A) (φ : ValueId → Bool) (i : Instruction) (is : List Instruction) (t : Terminator) (S : AggStates) (n : ℕ)
    → Sim κ φ is t → SimP κ φ i is t S n (kept S i)
unfolding kept
sim_kept κ φ i is t S n sim =
    replaced κ φ i i is t S n no_counts false sim (λ E w tk g. refl) (λ E tk g. reads_low κ i is t g) (λ g. looks_low κ i is t g)
    (λ E tk ud v xs h. base_read κ.types i.kind κ.mean.debug κ.dr v (tk v xs h).gone ud)

-- ---- what the tests say of the instruction in front

-- its dests are not defined again
pub dest_once : {A : Type 0} (κ : Ctx A) (i : Instruction) (is : List Instruction) (t : Terminator) → Good κ (i ∷ is) t
    → T (every (λ d. not (among d.0 (defined_in is))) (dests i.kind))
unfolding once
dest_once κ i is t g = search (both_l, both_r)

-- what it reads, Debug aside, is not defined there or later
pub reads_calm : {A : Type 0} (κ : Ctx A) (i : Instruction) (is : List Instruction) (t : Terminator) → Good κ (i ∷ is) t
    → T (every (λ v. not (among v.0 (defined_in (i ∷ is)))) (counted_reads false i.kind))
unfolding ordered
reads_calm κ i is t g =
    let calm : ValueId → Bool = λ v. not (among v.0 (defined_in (i ∷ is))) in
    reads_aside calm κ.mean.debug i.kind (both_l (every calm (counted_reads κ.mean.debug i.kind)) (ordered κ.mean.debug is) g.order)

-- the parts it takes are no Store's base
pub parts_free : {A : Type 0} (κ : Ctx A) (i : Instruction) (is : List Instruction) (t : Terminator) → Good κ (i ∷ is) t
    → T (every (λ v. not (κ.sb v.0)) (parts_taken i.kind))
unfolding apart
parts_free κ i is t g = search (both_l, both_r)

-- it is typed
pub is_typed : {A : Type 0} (κ : Ctx A) (i : Instruction) (is : List Instruction) (t : Terminator) → Good κ (i ∷ is) t → T (typed κ.types i.kind)
is_typed κ i is t g = both_l (typed κ.types i.kind) (every (λ j. typed κ.types j.kind) is) g.types

-- ---- an instruction that is left out

-- it writes one aggregate, whose parts are the values of xs, and nothing else; or it stops where we do not look
pub data Makes {A : Type 0} (κ : Ctx A) (E : Env A) (i : Instruction) (w : List (Val A)) (d : ValueId) (xs : List Value) : Type 0 where
  made : (ys : Vals A) → does κ i E w ≡ goes ((d, aggregate ys) ∷ []) w []
      → eval_all κ.mean E (part_row κ.types (value_row κ.types d)) xs ≡ some ys
      → κ.mean.large κ.types.rows (recorded_type κ.types d) ≡ false → Makes κ E i w d xs
  stuck : (c : Cause) → (FineCause c → ⊥) → does κ i E w ≡ stops c [] → Makes κ E i w d xs

-- the tracked values with one entry more
retrack : {A : Type 0} (κ : Ctx A) (S : AggStates) (E : Env A) (is : List Instruction) (d : ValueId) (xs : List Value) → Tracked κ E is d.0 xs
    → ((v : ℕ) (ys : List Value) → T (not (eqb v d.0)) → S v ≡ some ys → Tracked κ E is v ys) → Tracks κ (insert_state S d xs) E is
unfolding insert_state
retrack κ S E is d xs new old v ys h =
    elim (split (eqb v d.0)) [
      | passes y ↦ let q : v ≡ d.0 = eqb→eq v d.0 y in
          let p : xs ≡ ys = got (sym (cond_yes (eqb v d.0) (some xs) (S v) y) ∙ h) in
          rw q (rw (← p) new)
      | fails nn ↦ old v ys nn (sym (change_other S d.0 xs v nn) ∙ h)
    ]
  where
    got : some xs ≡ some ys → xs ≡ ys
    got z = cc

-- both runs behind an instruction that is left out
pub left_go : {A : Type 0} (κ : Ctx A) (φ : ValueId → Bool) (i : Instruction) (is : List Instruction) (t : Terminator) (S : AggStates) (n : ℕ)
    (d : ValueId) (xs : List Value) (E F : Env A) (w : List (Val A)) (rec : List (Event A)) → Sim κ φ is t → κ.m ≤ n
    → Tracks κ S E (i ∷ is) → Agree κ E F → Good κ (i ∷ is) t → OkOut κ n (walks κ φ (insert_state S d xs) n is t)
    → Parts κ (i ∷ is) xs → Whole κ.types (recorded_type κ.types d) xs → T (κ.dr d.0) → T (not (among d.0 (defined_in is)))
    → ((v : ℕ) → T (not (eqb v d.0)) → T (not (among v (changes κ.types i.kind))))
    → Makes κ E i w d xs → FineLeft (runs_from κ (does κ i E w) is t E rec)
    → Match κ (runs_from κ (does κ i E w) is t E rec)
    (reruns κ (walks κ φ (insert_state S d xs) n is t).out (walks κ φ (insert_state S d xs) n is t).terminator F w rec)
unfolding onward write_all log FineLeft
left_go κ φ i is t S n d xs E F w rec sim le tr ag g ok pa sh gd od nb (made ys e ev sm) f =
    rw e (sim (insert_state S d xs) n (write E d (aggregate ys)) F w rec le
    (retrack κ S (write E d (aggregate ys)) is d xs
    (record {
      vals = ys;
      whole = change_same E d.0 (aggregate ys);
      each = kept_values κ i is E w w ((d, aggregate ys) ∷ []) [] e (bases_ok κ i is t g) _ xs pa ∙ ev;
      gone = gd;
      once = od;
      parts = parts_later κ i is xs pa;
      shape = sh;
      small = sm;
    })
    (λ v zs nn h. tracked_on κ i is E w w ((d, aggregate ys) ∷ []) [] e (bases_ok κ i is t g) v zs (nb v nn) (tr v zs h)))
    (λ x lo nd. change_other E d.0 (aggregate ys) x (differ κ.dr x d.0 gd nd) ∙ ag x lo nd)
    (good_later κ i is t g) ok (rw e at f))
left_go κ φ i is t S n d xs E F w rec sim le tr ag g ok pa sh gd od nb (stuck c nay e) f = absurd (nay (rw e at f))

-- a tracked dest is dropped
drop_gone : {A : Type 0} (κ : Ctx A) (n : ℕ) (c : Counts) (S : AggStates) (d : ValueId) (xs : List Value) (w : Walked)
    → OkOut κ n (glue (tracked c S d xs) w) → T (κ.dr d.0)
unfolding glue tracked left
drop_gone κ n c S d xs w ok = both_l (κ.dr d.0) (every (λ v. κ.dr v.0) w.dropped) ok.drops

-- an instruction without a Store's base whose dest is tracked from here on
pub left_out : {A : Type 0} (κ : Ctx A) (φ : ValueId → Bool) (i : Instruction) (is : List Instruction) (t : Terminator) (S : AggStates) (n : ℕ)
    (c : Counts) (d : ValueId) (xs : List Value) → Sim κ φ is t
    → ((v : ℕ) → T (not (among v (changes κ.types i.kind)))) → dests i.kind ≡ d ∷ []
    → ((E : Env A) → Tracks κ S E (i ∷ is) → Good κ (i ∷ is) t → Parts κ (i ∷ is) xs)
    → ((E : Env A) → Tracks κ S E (i ∷ is) → Good κ (i ∷ is) t → Whole κ.types (recorded_type κ.types d) xs)
    → ((E : Env A) (w : List (Val A)) → Tracks κ S E (i ∷ is) → Good κ (i ∷ is) t → Makes κ E i w d xs)
    → SimP κ φ i is t S n (tracked c S d xs)
unfolding tracked left
left_out κ φ i is t S n c d xs sim nb de pa sh mk E F w rec le tk ag g ok f =
    let q = walks κ φ (insert_state S d xs) (n + 0) is t in
    left_go κ φ i is t S (n + 0) d xs E F w rec sim (more κ.m n le) tk ag g (ok_later κ n (tracked c S d xs) q ok) (pa E tk g) (sh E tk g)
    (drop_gone κ n c S d xs q ok) (both_l (not (among d.0 (defined_in is))) true (rw de at (dest_once κ i is t g))) (λ v nn. nb v) (mk E w tk g) f

-- ---- a value that is tracked

-- a tracked value is an operand
pub data Seen {A : Type 0} (κ : Ctx A) (E : Env A) (is : List Instruction) (x : Value) (xs : List Value) : Type 0 where
  seen : (v : ValueId) → x ≡ Value.Operand v → Tracked κ E is v.0 xs → Seen κ E is x xs

-- what is known of it
pub see : {A : Type 0} (κ : Ctx A) (S : AggStates) (E : Env A) (is : List Instruction) → Tracks κ S E is → (x : Value) (xs : List Value)
    → state_of S x ≡ some xs → Seen κ E is x xs
unfolding state_of
see κ S E is tk (Value.Literal l) xs h = absurd (none_some h)
see κ S E is tk (Value.Operand v) xs h = seen v refl (tk v.0 xs h)
see κ S E is tk Value.Error xs h = absurd (none_some h)

-- equal type numbers are equal types
pub same_type→eq : (a b : Option TypeId) → T (same_type a b) → a ≡ b
unfolding same_type
same_type→eq (some a) (some b) t = ap (λ (k : ℕ). some (record { 0 = k })) (eqb→eq a.0 b.0 t)
same_type→eq none b t = elim t [ ]
same_type→eq (some a) none t = elim t [ ]

-- an operand that fits a type has it
pub fits_type : (τ : Types) (v : ValueId) (t : Option TypeId) → T (fits τ (Value.Operand v) t) → recorded_type τ v ≡ t
unfolding fits
fits_type τ v t f = same_type→eq (recorded_type τ v) t f

-- and have equal rows
pub same_row : (τ : Types) (v : ValueId) (t : Option TypeId) → recorded_type τ v ≡ t → value_row τ v ≡ row_of τ t
unfolding value_row
same_row τ v t e = ap (row_of τ) e

-- an operand is read as it was written
pub operand_eval : {A : Type 0} (κ : Ctx A) (E : Env A) (v : ValueId) (row : Option MirType) (y : Val A) → E v.0 ≡ some y
    → eval κ.mean E row (Value.Operand v) ≡ some y
unfolding eval
operand_eval κ E v row y h = h

-- the tracked value x is handed on to d, of the same type
pub handed_on : {A : Type 0} (κ : Ctx A) (φ : ValueId → Bool) (i : Instruction) (is : List Instruction) (t : Terminator) (S : AggStates) (n : ℕ)
    (c : Counts) (d : ValueId) (u : TypeId) (x : Value) (xs : List Value) → Sim κ φ is t
    → ((v : ℕ) → T (not (among v (changes κ.types i.kind)))) → dests i.kind ≡ d ∷ [] → state_of S x ≡ some xs
    → (Good κ (i ∷ is) t → T (same_type (recorded_type κ.types d) (some u)))
    → ((E : Env A) → Tracks κ S E (i ∷ is) → Good κ (i ∷ is) t → T (fits κ.types x (some u)))
    → ((E : Env A) (w : List (Val A)) → Tracks κ S E (i ∷ is) → Good κ (i ∷ is) t → (y : Val A) → eval κ.mean E (row_of κ.types (some u)) x ≡ some y → does κ i E w ≡ goes ((d, y) ∷ []) w [])
    → SimP κ φ i is t S n (tracked c S d xs)
handed_on κ φ i is t S n c d u x xs sim nb de lk td tx same =
    left_out κ φ i is t S n c d xs sim nb de
    (λ E tk g. elim (see κ S E (i ∷ is) tk x xs lk) [ seen v q z ↦ z.parts ])
    (λ E tk g. elim (see κ S E (i ∷ is) tk x xs lk) [ seen v q z ↦ rw (same_type→eq _ _ (td g)) (rw (fits_type κ.types v (some u) (rw q at (tx E tk g))) at z.shape) ])
    (λ E w tk g. elim (see κ S E (i ∷ is) tk x xs lk) [
      | seen v q z ↦
          made z.vals (same E w tk g (aggregate z.vals) (rw q (operand_eval κ E v (row_of κ.types (some u)) (aggregate z.vals) z.whole)))
          (rw (same_row κ.types d (some u) (same_type→eq _ _ (td g))) (rw (same_row κ.types v (some u) (fits_type κ.types v (some u) (rw q at (tx E tk g)))) at z.each))
          (rw (same_type→eq _ _ (td g)) (rw (fits_type κ.types v (some u) (rw q at (tx E tk g))) at z.small))
    ])
