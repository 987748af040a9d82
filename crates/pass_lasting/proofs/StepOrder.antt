-- What a step puts out for an instruction stands in order: rebuilds, then one that defines the same and reads what is early.
use mathlib.Core.Path.{◌≡◌, refl, sym}
use Prim.Native.Nat.{ℕ, ◌+◌, ◌≤◌}
use mathlib.Core.Bool.{Bool, true, false, ◌&&◌}
use mathlib.Core.Option.{Option, none, some}
use mathlib.Core.List.{List, [], ◌∷◌, ◌++◌}
use native.Mathlib.Omega.{arith}
use lib.Dec.{T, ltb}
use lib.ListN.{length}
use Rattle.mir.specs.declared.ValueId.{ValueId}
use Rattle.mir.specs.declared.TypeId.{TypeId}
use Rattle.mir.specs.declared.Value.{Value}
use Rattle.mir.specs.declared.Projection.{Projection}
use Rattle.mir.specs.declared.Projection.TheVariants.{Index, Field, Tuple}
use Rattle.mir.specs.Syntax.{Meta, Place, FieldInit, Instruction, InstructionKind, plain}
use Rattle.mir.specs.Syntax.{Assign, UnaryOp, BinaryOp, Call, Cast, Load, Store, Debug, Nop, Phi}
use Rattle.mir.specs.Syntax.{MakeTuple, ExtractTupleElement, MakeStruct, ExtractStructField, InsertField, InsertTuple, MakeFixedArray, AssertEq, HeapAllocCells}
use Rattle.mir.specs.Reads.{operand, operands, indices, init_values, place_reads, reads, dests, counted, kind_number}
use Rattle.mir.specs.Lookup.{Types, on_some}
use Rattle.fold.specs.declared.Edition.{Edition}
use Rattle.fold.specs.declared.Settings.{Settings}
use Rattle.rewrite.specs.declared.Counts.{Counts}
use Rattle.rewrite.specs.State.{AggStates, state_of}
use Rattle.rewrite.specs.Rebuild.{Rebuilt, rebuild_all, Wanted, wanted_arguments, aggregate_type}
use Rattle.rewrite.specs.Deep.{rebuild_deep, wanted_own}
use Rattle.rewrite.specs.Readings.{readings, first, others, base_of, with_indices, behind_indices, with_inits, with_readings}
use Rattle.rewrite.specs.Piece.{Piece, kept, left, assigned}
use Rattle.rewrite.specs.Stays.{guarded, store_rebuilt, store_kept, step_call, stays_first, kept_behind, stays_second, stays_in, stays}
use Rattle.rewrite_laws.proofs.Readings.{same_dests}
use Rattle.shelf.specs.Lists.{every}
use Rattle.shelf.specs.Reads.{counted_reads}
use Rattle.machine_simulation.proofs.Tools.{both_l, both_r, both, split, passes, fails, cond_yes, cond_no, every_l, every_r, every_append}
use Rattle.machine_simulation.proofs.Takes.{operand_at}
use Rattle.machine_simulation.proofs.Frame.{test_head, test_rest, test_cons}
use Rattle.machine_simulation.proofs.Deep.{own_values}
use Rattle.machine_simulation.proofs.WithReadings.{kind_with, operands_read}
use Rattle.machine_simulation.proofs.Calls.{call_values}
use Rattle.pass_lasting.proofs.Vocabulary.{AllParts, PartOf, part_of, Shown, early, Calm, CalmBefore, InOrder}
use Rattle.pass_lasting.proofs.Calm.{all_later, calm_to, rebuilt_calm, deep_calm}

-- ---- an instruction with other values in the places of its readings reads those, and what it did

module _ (p : ValueId → Bool) where
  -- the first value, or the old one
  first_pass : (x : Value) (vs : List Value) → T (every p (operand x [])) → T (every p (operands vs)) → T (every p (operand (first x vs) []))
  unfolding first
  first_pass x [] h g = h
  first_pass x (v ∷ vs) h g = test_head p v (operands vs) g

  -- all but the first
  others_pass : (vs : List Value) → T (every p (operands vs)) → T (every p (operands (others vs)))
  unfolding others
  others_pass [] g = tt
  others_pass (v ∷ vs) g = test_rest p v (operands vs) g

  -- the first two
  two_pass : (x y : Value) (vs : List Value) → T (every p (operand x (operand y []))) → T (every p (operands vs))
      → T (every p (operand (first x vs) (operand (first y (others vs)) [])))
  two_pass x y vs h g =
      test_cons p (first x vs) (operand (first y (others vs)) []) (first_pass x vs (test_head p x (operand y []) h) g)
      (first_pass y (others vs) (test_rest p x (operand y []) h) (others_pass vs g))

  -- a Load's base
  base_pass : (b : ValueId) (vs : List Value) → T (p b) → T (every p (operands vs)) → T (p (base_of b (first (Value.Operand b) vs)))
  unfolding first base_of
  base_pass b [] h g = h
  base_pass b (Value.Literal l ∷ vs) h g = h
  base_pass b (Value.Operand v ∷ vs) h g = both_l (p v) (every p (operands vs)) g
  base_pass b (Value.Error ∷ vs) h g = h

  -- the Index values of a place
  indices_pass : (ps : List Projection) (vs : List Value) → T (every p (operands (indices ps))) → T (every p (operands vs))
      → T (every p (operands (indices (with_indices ps vs))))
  unfolding with_indices
  indices_pass [] vs h g = tt
  indices_pass (Index x ∷ ps) vs h g =
      test_cons p (first x vs) (operands (indices (with_indices ps (others vs)))) (first_pass x vs (test_head p x (operands (indices ps)) h) g)
      (indices_pass ps (others vs) (test_rest p x (operands (indices ps)) h) (others_pass vs g))
  indices_pass (Field n ∷ ps) vs h g = indices_pass ps vs h g
  indices_pass (Tuple k ∷ ps) vs h g = indices_pass ps vs h g

  -- and the values behind them
  behind_pass : (ps : List Projection) (vs : List Value) → T (every p (operands vs)) → T (every p (operands (behind_indices ps vs)))
  unfolding behind_indices
  behind_pass [] vs g = g
  behind_pass (Index x ∷ ps) vs g = behind_pass ps (others vs) (others_pass vs g)
  behind_pass (Field n ∷ ps) vs g = behind_pass ps vs g
  behind_pass (Tuple k ∷ ps) vs g = behind_pass ps vs g

  -- the inits of a struct
  inits_pass : (fs : List FieldInit) (vs : List Value) → T (every p (operands (init_values fs))) → T (every p (operands vs))
      → T (every p (operands (init_values (with_inits fs vs))))
  unfolding with_inits
  inits_pass [] vs h g = tt
  inits_pass (f ∷ fs) vs h g =
      test_cons p (first f.value vs) (operands (init_values (with_inits fs (others vs))))
      (first_pass f.value vs (test_head p f.value (operands (init_values fs)) h) g)
      (inits_pass fs (others vs) (test_rest p f.value (operands (init_values fs)) h) (others_pass vs g))

  -- a Store's base, its Index values and its value
  store_pass : (b : ValueId) (ps : List Projection) (x : Value) (vs : List Value) → T (every p ((b ∷ operands (indices ps)) ++ operand x []))
      → T (every p (operands vs)) → T (every p ((b ∷ operands (indices (with_indices ps vs))) ++ operand (first x (behind_indices ps vs)) []))
  store_pass b ps x vs h g =
      let os : List ValueId = operands (indices ps) in
      let os' : List ValueId = operands (indices (with_indices ps vs)) in
      let t : T (every p (b ∷ os)) = every_l p (b ∷ os) (operand x []) h in
      every_append p (b ∷ os') (operand (first x (behind_indices ps vs)) [])
      (both (p b) (every p os') (both_l (p b) (every p os) t) (indices_pass ps vs (both_r (p b) (every p os) t) g))
      (first_pass x (behind_indices ps vs) (every_r p (b ∷ os) (operand x []) h) (behind_pass ps vs g))

  -- what passes of an instruction and of values passes of the instruction with them in
  with_pass : (k : InstructionKind) (vs : List Value) → T (every p (reads k)) → T (every p (operands vs)) → T (every p (reads (with_readings k vs)))
  unfolding with_readings
  with_pass (Assign d x t) vs h g = first_pass x vs h g
  with_pass (UnaryOp op d x) vs h g = first_pass x vs h g
  with_pass (BinaryOp op d x y) vs h g = two_pass x y vs h g
  with_pass (Call ds f xs ps rs) vs h g = g
  with_pass (Cast d x t u) vs h g = first_pass x vs h g
  with_pass (Load d pl t) vs h g =
      let os : List ValueId = operands (indices pl.projections) in
      both (p (base_of pl.base (first (Value.Operand pl.base) vs))) (every p (operands (indices (with_indices pl.projections (others vs)))))
      (base_pass pl.base vs (both_l (p pl.base) (every p os) h) g)
      (indices_pass pl.projections (others vs) (both_r (p pl.base) (every p os) h) (others_pass vs g))
  with_pass (Store pl x t) vs h g = store_pass pl.base pl.projections x vs h g
  with_pass (Debug m xs) vs h g = g
  with_pass Nop vs h g = h
  with_pass (Phi d t ss) vs h g = h
  with_pass (MakeTuple d xs) vs h g = g
  with_pass (ExtractTupleElement d x k t) vs h g = first_pass x vs h g
  with_pass (MakeStruct d fs t) vs h g = inits_pass fs vs h g
  with_pass (ExtractStructField d x n t) vs h g = first_pass x vs h g
  with_pass (InsertField d x n y t) vs h g = two_pass x y vs h g
  with_pass (InsertTuple d x k y t) vs h g = two_pass x y vs h g
  with_pass (MakeFixedArray d xs t c) vs h g = g
  with_pass (AssertEq x y) vs h g = two_pass x y vs h g
  with_pass (HeapAllocCells d x) vs h g = first_pass x vs h g

-- what passes of all that is read passes of what counts
count_pass : (debug : Bool) (p : ValueId → Bool) (k : InstructionKind) → (T (counted debug k) → T (every p (reads k))) → T (every p (counted_reads debug k))
count_pass debug p k f =
    elim (split (counted debug k)) [
      | passes y ↦ rw (cond_yes (counted debug k) (reads k) [] y) (f y)
      | fails y ↦ rw (cond_no (counted debug k) (reads k) [] y) tt
    ]

-- of two of one kind the reads of the one pass where those of the other did, if they do where they count
counted_pass : (debug : Bool) (p p' : ValueId → Bool) (k k' : InstructionKind) → kind_number k' ≡ kind_number k
    → (T (every p (reads k)) → T (every p' (reads k'))) → T (every p (counted_reads debug k)) → T (every p' (counted_reads debug k'))
counted_pass debug p p' k k' e f h = count_pass debug p' k' (λ y. f (rw (cond_yes (counted debug k) (reads k) [] (rw e at y)) at h))

-- ---- what stays

module _ (debug : Bool) (σ : Settings) (τ : Types) (S : AggStates) (q : ℕ → Bool) (low : ℕ) (fresh : (v : ℕ) → low ≤ v → T (q v))
    (parts : AllParts (λ v. ltb v low && q v) S) (n : ℕ) (le : low ≤ n) where
  -- what reads what is early counts as early
  abbrev Early : InstructionKind → Type 0
  Early k = T (every (early q low) (counted_reads debug k))

  -- an instruction alone, of the same kind and dests
  alone_order : (i j : Instruction) (p : Piece) → p.out ≡ j ∷ [] → p.fresh ≡ [] → kind_number j.kind ≡ kind_number i.kind → dests j.kind ≡ dests i.kind
      → (T (every (early q low) (reads i.kind)) → T (every (early q low) (reads j.kind))) → Early i.kind → InOrder debug q n i p
  alone_order i j p e l k d f h =
      let m = n + length p.fresh in
      InOrder.stands [] j e (calm_to m (rw l (omega arith)) Calm.none) d
      (counted_pass debug (early q low) (early q m) i.kind j.kind k (λ t. all_later q low m (omega arith) (reads j.kind) (f t)) h)

  -- an instruction that is kept
  kept_order : (i : Instruction) → Early i.kind → InOrder debug q n i (kept S i)
  unfolding kept
  kept_order i h = alone_order i i (kept S i) refl refl refl refl (λ t. t) h

  -- an instruction behind rebuilds of values that it reads, with what they give put in
  behind_order : (i j : Instruction) (xs : List Value) (r : Rebuilt) (p : Piece) → p.out ≡ r.before ++ (j ∷ []) → p.fresh ≡ r.fresh → CalmBefore q low n xs r
      → kind_number j.kind ≡ kind_number i.kind → dests j.kind ≡ dests i.kind
      → ((z : ValueId → Bool) → T (every z (reads i.kind)) → T (every z (operands xs)))
      → ((z : ValueId → Bool) → T (every z (reads i.kind)) → T (every z (operands r.values)) → T (every z (reads j.kind)))
      → Early i.kind → InOrder debug q n i p
  behind_order i j xs r p e l c k d f g h =
      let m = n + length p.fresh in
      InOrder.stands r.before j e (rw l c.before) d
      (counted_pass debug (early q low) (early q m) i.kind j.kind k
      (λ t. g (early q m) (all_later q low m (omega arith) (reads i.kind) t) (rw l (c.values (f (early q low) t)))) h)

  -- ---- edition 1

  -- a Call
  call_order : (m : Meta) (ds : List ValueId) (f : ℕ) (xs : List Value) (ps rs : List TypeId) (r : Rebuilt) (us : List TypeId) → r.fresh ≡ us
      → CalmBefore q low n xs r → Early (Call ds f xs ps rs)
      → InOrder debug q n (record { meta = m; kind = Call ds f xs ps rs }) (step_call S (record { meta = m; kind = Call ds f xs ps rs }) ds f ps rs r us)
  unfolding step_call
  call_order m ds f xs ps rs r [] e c h = kept_order (record { meta = m; kind = Call ds f xs ps rs }) h
  call_order m ds f xs ps rs r (u ∷ us) e c h =
      let i : Instruction = record { meta = m; kind = Call ds f xs ps rs } in
      behind_order i (plain (Call ds f r.values ps rs)) xs r (step_call S i ds f ps rs r (u ∷ us)) refl (rw e) c refl refl (λ z t. t) (λ z t s. s) h

  -- a Store behind its rebuild
  store_order : (m : Meta) (p : Place) (x : Value) (u : TypeId) (r : Rebuilt) (ys : List Value) → r.values ≡ ys → CalmBefore q low n (x ∷ []) r
      → Early (Store p x u) → InOrder debug q n (record { meta = m; kind = Store p x u }) (store_rebuilt S m p u r ys)
  unfolding store_rebuilt kept
  store_order m p x u r [] e c h =
      let i : Instruction = record { meta = m; kind = Store p x u } in
      let j : Instruction = record { meta = m; kind = Store p Value.Error u } in
      alone_order i j (kept S j) refl refl refl refl
      (λ t. every_append (early q low) (place_reads p) [] (every_l (early q low) (place_reads p) (operand x []) t) tt) h
  store_order m p x u r (y ∷ ys) e c h =
      let i : Instruction = record { meta = m; kind = Store p x u } in
      let j : Instruction = record { meta = m; kind = Store p y u } in
      behind_order i j (x ∷ []) r (store_rebuilt S m p u r (y ∷ ys)) refl refl c refl refl (λ z t. every_r z (place_reads p) (operand x []) t)
      (λ z t s. every_append z (place_reads p) (operand y []) (every_l z (place_reads p) (operand x []) t) (test_head z y (operands ys) (rw e at s))) h

  -- a Store that is not forwarded
  store_kept_order : (m : Meta) (p : Place) (x : Value) (u : TypeId) (o : Option (List Value)) → Early (Store p x u)
      → InOrder debug q n (record { meta = m; kind = Store p x u }) (store_kept τ S n (record { meta = m; kind = Store p x u }) p x u o)
  unfolding store_kept
  store_kept_order m p x u none h = kept_order (record { meta = m; kind = Store p x u }) h
  store_kept_order m p x u (some xs) h =
      let ws : List Wanted = record { value = x; at = some u } ∷ [] in
      let r = rebuild_all τ S n ws in
      store_order m p x u r r.values refl (rebuilt_calm τ S q low fresh parts ws n le) h

  -- an arm that a setting turns off
  guarded_order : (b : Bool) (i : Instruction) (a c : Piece) → InOrder debug q n i a → InOrder debug q n i c → InOrder debug q n i (guarded b a c)
  unfolding guarded
  guarded_order true i a c s t = t
  guarded_order false i a c s t = s

  -- every kind
  first_order : (m : Meta) (k : InstructionKind) → Early k
      → InOrder debug q n (record { meta = m; kind = k }) (stays_first σ τ S n (record { meta = m; kind = k }) k)
  unfolding stays_first
  first_order m (Assign d x t) h = kept_order _ h
  first_order m (UnaryOp op d x) h = kept_order _ h
  first_order m (BinaryOp op d x y) h = kept_order _ h
  first_order m (Call ds f xs ps rs) h =
      let r = rebuild_all τ S n (wanted_arguments τ xs ps) in
      call_order m ds f xs ps rs r r.fresh refl (rw (call_values τ xs ps) at (rebuilt_calm τ S q low fresh parts (wanted_arguments τ xs ps) n le)) h
  first_order m (Cast d x t u) h = kept_order _ h
  first_order m (Load d p t) h = kept_order _ h
  first_order m (Store p x t) h =
      guarded_order σ.tuples _ _ _ (kept_order _ h) (store_kept_order m p x t (on_some (aggregate_type τ t) (λ u. state_of S x)) h)
  first_order m (Debug a xs) h = kept_order _ h
  first_order m Nop h = kept_order _ h
  first_order m (Phi d t ss) h = kept_order _ h
  first_order m (MakeTuple d xs) h = kept_order _ h
  first_order m (ExtractTupleElement d x k t) h = kept_order _ h
  first_order m (MakeStruct d fs t) h = kept_order _ h
  first_order m (ExtractStructField d x a t) h = kept_order _ h
  first_order m (InsertField d x a y t) h = kept_order _ h
  first_order m (InsertTuple d x k y t) h = kept_order _ h
  first_order m (MakeFixedArray d xs t c) h = kept_order _ h
  first_order m (AssertEq x y) h = kept_order _ h
  first_order m (HeapAllocCells d x) h = kept_order _ h

  -- ---- edition 2

  -- every kind
  second_order : (i : Instruction) → Early i.kind → InOrder debug q n i (stays_second τ S n i)
  unfolding stays_second kept_behind
  second_order i h =
      let xs : List Value = readings i.kind in
      let r = rebuild_deep τ S n (wanted_own τ xs) in
      let j : Instruction = record { meta = i.meta; kind = with_readings i.kind r.values } in
      behind_order i j xs r (kept_behind S i r) refl refl (rw (own_values τ xs) at (deep_calm τ S q low fresh parts (wanted_own τ xs) n le))
      (kind_with i.kind r.values) (same_dests i.kind r.values).0 (λ z t. operands_read z i.kind t) (λ z t s. with_pass z i.kind r.values t s) h

  -- ---- by the edition

  -- in an edition
  edition_order : (e : Edition) (i : Instruction) → Early i.kind → InOrder debug q n i (stays_in e σ τ S n i)
  unfolding stays_in
  edition_order Edition.First i h = first_order i.meta i.kind h
  edition_order Edition.Second i h = second_order i h

  -- in that of the settings
  pub stays_order : (i : Instruction) → T (every (early q low) (counted_reads debug i.kind)) → InOrder debug q n i (stays σ τ S n i)
  unfolding stays
  stays_order i h = edition_order σ.edition i h

  -- ---- one step

  -- an Assign of a part of something tracked
  assigned_order : (c : Counts) (d : ValueId) (x : Value) (t : TypeId) (i : Instruction) → dests i.kind ≡ d ∷ [] → PartOf S x
      → InOrder debug q n i (assigned c S d x t)
  unfolding assigned
  assigned_order c d x t i e (part_of v xs k z g a) =
      let m = n + length {A = TypeId} [] in
      InOrder.stands [] (plain (Assign d z t)) refl (calm_to m (omega arith) Calm.none) (sym e)
      (count_pass debug (early q m) (Assign d z t)
      (λ y. all_later q low m (omega arith) (operand z []) (operand_at (early q low) xs k z (parts v xs g) a)))

  -- what a step makes of an instruction
  pub step_order_of : (i : Instruction) → T (every (early q low) (counted_reads debug i.kind)) → (p : Piece) → Shown σ τ S n i p → InOrder debug q n i p
  unfolding left
  step_order_of i h p Shown.stays_so = stays_order i h
  step_order_of i h p (Shown.left_out c ds S') = InOrder.gone refl
  step_order_of i h p (Shown.assigned_so c d x t e w f) = assigned_order c d x t i e w
