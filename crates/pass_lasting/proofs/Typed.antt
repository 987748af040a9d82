-- What comes out of a walk agrees with the types as the rewritten routine records them, as what went in agreed with its own.
use mathlib.Core.Path.{◌≡◌, refl}
use Prim.Native.Nat.{ℕ}
use mathlib.Core.Bool.{Bool, true, false, cond}
use mathlib.Core.Option.{Option, none, some}
use mathlib.Core.List.{List, [], ◌∷◌, ◌++◌}
use native.Mathlib.Omega.{arith}
use lib.Dec.{T, ltb}
use lib.ListN.{length}
use Rattle.mir.specs.declared.ValueId.{ValueId}
use Rattle.mir.specs.declared.TypeId.{TypeId}
use Rattle.mir.specs.declared.Value.{Value}
use Rattle.mir.specs.Syntax.{Meta, Place, Instruction, InstructionKind, plain}
use Rattle.mir.specs.Syntax.{Assign, UnaryOp, BinaryOp, Call, Cast, Load, Store, Debug, Nop, Phi}
use Rattle.mir.specs.Syntax.{MakeTuple, ExtractTupleElement, MakeStruct, ExtractStructField, InsertField, InsertTuple, MakeFixedArray, AssertEq, HeapAllocCells}
use Rattle.mir.specs.Reads.{operand, operands, indices, reads, dests, counted}
use Rattle.mir.specs.Lookup.{Types, on_some}
use Rattle.fold.specs.declared.Edition.{Edition}
use Rattle.fold.specs.declared.Settings.{Settings}
use Rattle.rewrite.specs.State.{AggStates, state_of}
use Rattle.rewrite.specs.Rebuild.{Rebuilt, Wanted, rebuild_all, wanted_arguments, aggregate_type}
use Rattle.rewrite.specs.Deep.{rebuild_deep, wanted_own}
use Rattle.rewrite.specs.Readings.{readings, with_readings}
use Rattle.rewrite.specs.Piece.{Piece, kept, left, assigned}
use Rattle.rewrite.specs.Stays.{guarded, store_rebuilt, store_kept, step_call, stays_first, kept_behind, stays_second, stays_in, stays}
use Rattle.shelf.specs.Lists.{every}
use Rattle.shelf.specs.Fits.{fits, arguments_fit}
use Rattle.shelf.specs.Agrees.{place_fits, dests_fit, agrees, counted_agrees}
use Rattle.shelf.proofs.Both.{every_imp}
use Rattle.shelf.proofs.Flag.{agrees_aside}
use Rattle.machine_simulation.specs.Typing.{TypedStates}
use Rattle.machine_simulation.proofs.Tools.{both_l, both_r, both, every_append, every_l, every_r}
use Rattle.machine_simulation.proofs.Generic.{Recorded}
use Rattle.machine_simulation.proofs.Calls.{call_values, call_own}
use Rattle.machine_simulation.proofs.Deep.{flat_length}
use Rattle.machine_simulation.proofs.Takes.{operand_at}
use Rattle.machine_simulation.proofs.WithReadings.{operands_read}
use Rattle.pass_lasting.proofs.Vocabulary.{AllParts, PartOf, part_of, Shown, stays_so, left_out, assigned_so}
use Rattle.pass_lasting.proofs.Vocabulary.{TypeTwin, TypeTwins, Table, types_later, AgreeBefore}
use Rattle.pass_lasting.proofs.Later.{low_alike, counted_later}
use Rattle.pass_lasting.proofs.AgreesWith.{fits_twin, counted_with}
use Rattle.pass_lasting.proofs.Rebuilt.{rebuilt_agrees, deep_agrees}

-- below the first fresh number
abbrev pub low : Table → ValueId → Bool
low κ v = ltb v.0 κ.m

-- an instruction's test of reason 1, by the types of the original, and by those that the rewritten routine records
abbrev pub fine : Bool → Table → Instruction → Bool
fine debug κ i = counted_agrees debug κ.types i.kind

-- the same of what came out
abbrev pub fine_later : Bool → Table → Instruction → Bool
fine_later debug κ i = counted_agrees debug (types_later κ) i.kind

-- an instruction of such values is as well typed as it was
pub low_fine : (debug : Bool) (κ : Table) (k : InstructionKind) → T (every (low κ) (reads k)) → T (every (low κ) (dests k))
    → T (counted_agrees debug κ.types k) → T (counted_agrees debug (types_later κ) k)
low_fine debug κ k r d t = rw (counted_later debug κ.types κ.later k (low_alike κ (reads k) r) (low_alike κ (dests k) d)) at t

-- what agrees does so whether it counts or not
agrees_counted : (debug : Bool) (τ : Types) (k : InstructionKind) → T (agrees τ k) → T (counted_agrees debug τ k)
unfolding counted_agrees
agrees_counted debug τ k t = some_of (counted debug k)
  where
    some_of : (c : Bool) → T (cond c (agrees τ k) true)
    some_of true = t
    some_of false = tt

-- ---- rebuilds, and the instruction behind them

-- what is known of an instruction and of all that is tracked before it
pub record Known (debug : Bool) (κ : Table) (S : AggStates) (k : InstructionKind) : Type 0 where
  pub typed : TypedStates κ.types S
  pub parts : AllParts (λ v. ltb v κ.m) S
  pub reads : T (every (low κ) (reads k))
  pub dests : T (every (low κ) (dests k))
  pub fine : T (counted_agrees debug κ.types k)

-- rebuilds count as any instruction
pub builds_fine : (debug : Bool) (κ : Table) (is : List Instruction) → T (every (λ i. agrees (types_later κ) i.kind) is) → T (every (fine_later debug κ) is)
builds_fine debug κ is t =
    every_imp (λ (i : Instruction). agrees (types_later κ) i.kind) (fine_later debug κ) (λ i. agrees_counted debug (types_later κ) i.kind) is t

-- an instruction behind the rebuilds of its readings
behind_fine : (debug : Bool) (κ : Table) (S : AggStates) (m : Meta) (k : InstructionKind) (r : Rebuilt) → Known debug κ S k → AgreeBefore κ (readings k) r
    → T (every (fine_later debug κ) (r.before ++ (record { meta = m; kind = with_readings k r.values } ∷ [])))
behind_fine debug κ S m k r h b =
    every_append (fine_later debug κ) r.before _ (builds_fine debug κ r.before b.builds)
    (both (counted_agrees debug (types_later κ) (with_readings k r.values)) true
    (rw (counted_with debug (types_later κ) k r.values b.twins) (low_fine debug κ k h.reads h.dests h.fine)) tt)

-- an instruction that is kept
kept_fine : (debug : Bool) (κ : Table) (S : AggStates) (i : Instruction) → Known debug κ S i.kind → T (every (fine_later debug κ) (kept S i).out)
unfolding kept
kept_fine debug κ S i h = both (fine_later debug κ i) true (low_fine debug κ i.kind h.reads h.dests h.fine) tt

-- a Call's arguments, at types that are their own
call_fine : (debug : Bool) (κ : Table) (S : AggStates) (n : ℕ) (m : Meta) (ds : List ValueId) (f : ℕ) (xs : List Value) (ps rs : List TypeId) (r : Rebuilt)
    → Known debug κ S (Call ds f xs ps rs) → AgreeBefore κ xs r → (fresh : List TypeId)
    → T (every (fine_later debug κ) (step_call S (record { meta = m; kind = Call ds f xs ps rs }) ds f ps rs r fresh).out)
unfolding step_call with_readings readings
call_fine debug κ S n m ds f xs ps rs r h b [] = kept_fine debug κ S (record { meta = m; kind = Call ds f xs ps rs }) h
call_fine debug κ S n m ds f xs ps rs r h b (t ∷ ts) = plain_call (behind_fine debug κ S m (Call ds f xs ps rs) r h b)
  where
    plain_call : T (every (fine_later debug κ) (r.before ++ (record { meta = m; kind = with_readings (Call ds f xs ps rs) r.values } ∷ [])))
        → T (every (fine_later debug κ) (r.before ++ (plain (Call ds f r.values ps rs) ∷ [])))
    plain_call t =
        every_append (fine_later debug κ) r.before _ (every_l (fine_later debug κ) r.before _ t)
        (both (counted_agrees debug (types_later κ) (Call ds f r.values ps rs)) true
        (both_l (counted_agrees debug (types_later κ) (with_readings (Call ds f xs ps rs) r.values)) true (every_r (fine_later debug κ) r.before _ t)) tt)

-- a Call that stays in edition 1
first_call : (debug : Bool) (κ : Table) (S : AggStates) (n : ℕ) (m : Meta) (ds : List ValueId) (f : ℕ) (xs : List Value) (ps rs : List TypeId)
    → Known debug κ S (Call ds f xs ps rs) → (fresh : List TypeId) → (rebuild_all κ.types S n (wanted_arguments κ.types xs ps)).fresh ≡ fresh
    → let q = step_call S (record { meta = m; kind = Call ds f xs ps rs }) ds f ps rs (rebuild_all κ.types S n (wanted_arguments κ.types xs ps)) fresh in
    Recorded (types_later κ) n q.fresh → T (every (fine_later debug κ) q.out)
unfolding step_call counted_agrees agrees
first_call debug κ S n m ds f xs ps rs h [] e rc = kept_fine debug κ S (record { meta = m; kind = Call ds f xs ps rs }) h
first_call debug κ S n m ds f xs ps rs h (t ∷ ts) e rc =
    let r = rebuild_all κ.types S n (wanted_arguments κ.types xs ps) in
    let fit : T (arguments_fit κ.types xs ps) =
    both_l (arguments_fit κ.types xs ps) (dests_fit κ.types ds rs) (agrees_aside debug κ.types (Call ds f xs ps rs) h.fine) in
    call_fine debug κ S n m ds f xs ps rs r h
    (rw (call_values κ.types xs ps) at (rebuilt_agrees κ S h.typed h.parts (wanted_arguments κ.types xs ps) (call_own κ.types S xs ps fit)
    (rw (call_values κ.types xs ps) h.reads) n (rw e rc))) (t ∷ ts)

-- a Store of a value with the same recorded type
store_twin : (debug : Bool) (τ : Types) (p : Place) (x y : Value) (u : TypeId) → TypeTwin τ x y
    → counted_agrees debug τ (Store p y u) ≡ counted_agrees debug τ (Store p x u)
unfolding counted_agrees agrees
store_twin debug τ p x y u h = rw (fits_twin τ (some u) x y h)

-- a Store behind the rebuild of its value
store_behind : (debug : Bool) (κ : Table) (S : AggStates) (m : Meta) (p : Place) (x : Value) (u : TypeId) (r : Rebuilt)
    → Known debug κ S (Store p x u) → T (every (λ i. agrees (types_later κ) i.kind) r.before) → (ys : List Value) → TypeTwins (types_later κ) (x ∷ []) ys
    → T (every (fine_later debug κ) (store_rebuilt S m p u r ys).out)
unfolding store_rebuilt
store_behind debug κ S m p x u r h b [] tw = absurd tw
store_behind debug κ S m p x u r h b (y ∷ ys) tw =
    every_append (fine_later debug κ) r.before _ (builds_fine debug κ r.before b)
    (both (counted_agrees debug (types_later κ) (Store p y u)) true
    (rw (store_twin debug (types_later κ) p x y u tw.0) (low_fine debug κ (Store p x u) h.reads h.dests h.fine)) tt)

-- the numbers that a rebuilt Store takes: one value is asked for, and one comes back
store_takes : (S : AggStates) (m : Meta) (p : Place) (u : TypeId) (r : Rebuilt) (ys : List Value) (τ : Types) (n : ℕ) → length ys ≡ 1
    → Recorded τ n (store_rebuilt S m p u r ys).fresh → Recorded τ n r.fresh
unfolding store_rebuilt
store_takes S m p u r [] τ n e h = absurd (omega (arith, e))
store_takes S m p u r (y ∷ ys) τ n e h = h

-- a Store whose value is tracked
store_anew : (debug : Bool) (κ : Table) (S : AggStates) (n : ℕ) (m : Meta) (p : Place) (x : Value) (u : TypeId) → Known debug κ S (Store p x u)
    → let r = rebuild_all κ.types S n (record { value = x; at = some u } ∷ []) in
    Recorded (types_later κ) n (store_rebuilt S m p u r r.values).fresh → T (every (fine_later debug κ) (store_rebuilt S m p u r r.values).out)
unfolding counted_agrees agrees
store_anew debug κ S n m p x u h rc =
    let ws : List Wanted = record { value = x; at = some u } ∷ [] in
    let r = rebuild_all κ.types S n ws in
    let fit : T (fits κ.types x (some u)) = both_l (fits κ.types x (some u)) (place_fits κ.types p u) (agrees_aside debug κ.types (Store p x u) h.fine) in
    let b = rebuilt_agrees κ S h.typed h.parts ws (λ xs t' a e. fits_own t' e fit, tt)
    (every_r (low κ) (operands (indices p.projections)) (operand x []) (both_r (low κ p.base) _ h.reads)) n
    (store_takes S m p u r r.values (types_later κ) n (flat_length κ.types S n ws) rc) in
    store_behind debug κ S m p x u r h b.builds r.values b.twins
  where
    fits_own : (t' : TypeId) → some u ≡ some t' → T (fits κ.types x (some u)) → T (fits κ.types x (some t'))
    fits_own t' e f = let z : u ≡ t' = cc in rw (← z) f

-- a Store that is not forwarded
first_kept : (debug : Bool) (κ : Table) (S : AggStates) (n : ℕ) (m : Meta) (p : Place) (x : Value) (u : TypeId) → Known debug κ S (Store p x u)
    → (o : Option (List Value)) → let q = store_kept κ.types S n (record { meta = m; kind = Store p x u }) p x u o in
    Recorded (types_later κ) n q.fresh → T (every (fine_later debug κ) q.out)
unfolding store_kept
first_kept debug κ S n m p x u h none rc = kept_fine debug κ S (record { meta = m; kind = Store p x u }) h
first_kept debug κ S n m p x u h (some xs) rc = store_anew debug κ S n m p x u h rc

-- a Store that stays in edition 1, by the setting
first_store : (debug : Bool) (κ : Table) (S : AggStates) (n : ℕ) (m : Meta) (p : Place) (x : Value) (u : TypeId) → Known debug κ S (Store p x u)
    → (o : Option (List Value)) (b : Bool)
    → let i : Instruction = record { meta = m; kind = Store p x u } in let q = guarded b (kept S i) (store_kept κ.types S n i p x u o) in
    Recorded (types_later κ) n q.fresh → T (every (fine_later debug κ) q.out)
unfolding guarded
first_store debug κ S n m p x u h o true rc = first_kept debug κ S n m p x u h o rc
first_store debug κ S n m p x u h o false rc = kept_fine debug κ S (record { meta = m; kind = Store p x u }) h

-- ---- what stays, in either edition

-- what stays in edition 1
first_fine : (debug : Bool) (σ : Settings) (κ : Table) (S : AggStates) (n : ℕ) (m : Meta) (k : InstructionKind) → Known debug κ S k
    → let q = stays_first σ κ.types S n (record { meta = m; kind = k }) k in Recorded (types_later κ) n q.fresh → T (every (fine_later debug κ) q.out)
unfolding stays_first
first_fine debug σ κ S n m (Assign d x u) h rc = kept_fine debug κ S (record { meta = m; kind = Assign d x u }) h
first_fine debug σ κ S n m (UnaryOp op d x) h rc = kept_fine debug κ S (record { meta = m; kind = UnaryOp op d x }) h
first_fine debug σ κ S n m (BinaryOp op d x y) h rc = kept_fine debug κ S (record { meta = m; kind = BinaryOp op d x y }) h
first_fine debug σ κ S n m (Call ds f xs ps rs) h rc =
    first_call debug κ S n m ds f xs ps rs h (rebuild_all κ.types S n (wanted_arguments κ.types xs ps)).fresh refl rc
first_fine debug σ κ S n m (Cast d x u v) h rc = kept_fine debug κ S (record { meta = m; kind = Cast d x u v }) h
first_fine debug σ κ S n m (Load d p u) h rc = kept_fine debug κ S (record { meta = m; kind = Load d p u }) h
first_fine debug σ κ S n m (Store p x u) h rc = first_store debug κ S n m p x u h (on_some (aggregate_type κ.types u) (λ a. state_of S x)) σ.tuples rc
first_fine debug σ κ S n m (Debug a xs) h rc = kept_fine debug κ S (record { meta = m; kind = Debug a xs }) h
first_fine debug σ κ S n m Nop h rc = kept_fine debug κ S (record { meta = m; kind = Nop }) h
first_fine debug σ κ S n m (Phi d u ss) h rc = kept_fine debug κ S (record { meta = m; kind = Phi d u ss }) h
first_fine debug σ κ S n m (MakeTuple d xs) h rc = kept_fine debug κ S (record { meta = m; kind = MakeTuple d xs }) h
first_fine debug σ κ S n m (ExtractTupleElement d x k u) h rc = kept_fine debug κ S (record { meta = m; kind = ExtractTupleElement d x k u }) h
first_fine debug σ κ S n m (MakeStruct d fs u) h rc = kept_fine debug κ S (record { meta = m; kind = MakeStruct d fs u }) h
first_fine debug σ κ S n m (ExtractStructField d x f u) h rc = kept_fine debug κ S (record { meta = m; kind = ExtractStructField d x f u }) h
first_fine debug σ κ S n m (InsertField d x f y u) h rc = kept_fine debug κ S (record { meta = m; kind = InsertField d x f y u }) h
first_fine debug σ κ S n m (InsertTuple d x k y u) h rc = kept_fine debug κ S (record { meta = m; kind = InsertTuple d x k y u }) h
first_fine debug σ κ S n m (MakeFixedArray d xs u c) h rc = kept_fine debug κ S (record { meta = m; kind = MakeFixedArray d xs u c }) h
first_fine debug σ κ S n m (AssertEq x y) h rc = kept_fine debug κ S (record { meta = m; kind = AssertEq x y }) h
first_fine debug σ κ S n m (HeapAllocCells d x) h rc = kept_fine debug κ S (record { meta = m; kind = HeapAllocCells d x }) h

-- what stays in edition 2
second_fine : (debug : Bool) (κ : Table) (S : AggStates) (n : ℕ) (i : Instruction) → Known debug κ S i.kind
    → Recorded (types_later κ) n (stays_second κ.types S n i).fresh → T (every (fine_later debug κ) (stays_second κ.types S n i).out)
unfolding stays_second kept_behind
second_fine debug κ S n i h rc =
    behind_fine debug κ S i.meta i.kind (rebuild_deep κ.types S n (wanted_own κ.types (readings i.kind))) h
    (deep_agrees κ S h.typed h.parts (readings i.kind) (operands_read (low κ) i.kind h.reads) n rc)

-- by the edition
in_fine : (debug : Bool) (σ : Settings) (κ : Table) (S : AggStates) (n : ℕ) (i : Instruction) → Known debug κ S i.kind → (e : Edition)
    → Recorded (types_later κ) n (stays_in e σ κ.types S n i).fresh → T (every (fine_later debug κ) (stays_in e σ κ.types S n i).out)
unfolding stays_in
in_fine debug σ κ S n i h Edition.First rc = first_fine debug σ κ S n i.meta i.kind h rc
in_fine debug σ κ S n i h Edition.Second rc = second_fine debug κ S n i h rc

-- what stays
stays_fine : (debug : Bool) (σ : Settings) (κ : Table) (S : AggStates) (n : ℕ) (i : Instruction) → Known debug κ S i.kind
    → Recorded (types_later κ) n (stays σ κ.types S n i).fresh → T (every (fine_later debug κ) (stays σ κ.types S n i).out)
unfolding stays
stays_fine debug σ κ S n i h rc = in_fine debug σ κ S n i h σ.edition rc

-- ---- one step

-- a part of something tracked is below the first fresh number
part_low : (κ : Table) (S : AggStates) (x : Value) → AllParts (λ v. ltb v κ.m) S → PartOf S x → T (every (low κ) (operand x []))
part_low κ S _ h (part_of v xs k x e f) = operand_at (low κ) xs k x (h v xs e) f

-- what one step puts out
pub step_fine : (debug : Bool) (σ : Settings) (κ : Table) (S : AggStates) (n : ℕ) (i : Instruction) → Known debug κ S i.kind → (p : Piece)
    → Shown σ κ.types S n i p → Recorded (types_later κ) n p.fresh → T (every (fine_later debug κ) p.out)
unfolding left assigned
step_fine debug σ κ S n i h p stays_so rc = stays_fine debug σ κ S n i h rc
step_fine debug σ κ S n i h p (left_out c ds S') rc = tt
step_fine debug σ κ S n i h p (assigned_so c d x t e o f) rc =
    both (counted_agrees debug (types_later κ) (Assign d x t)) true
    (low_fine debug κ (Assign d x t) (part_low κ S x h.parts o) (rw e at h.dests)
    (agrees_counted debug κ.types (Assign d x t) (f h.typed (agrees_aside debug κ.types i.kind h.fine)))) tt
