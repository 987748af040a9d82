-- What one step of the walk may give, once for every law: a piece of edition 1 is one of five, of edition 2 one of six.
use Prim.Native.Nat.{ℕ, ◌+◌}
use native.Mathlib.Omega.{arith}
use mathlib.Core.Path.{◌≡◌, refl, ◌∙◌}
use mathlib.Core.List.{List, [], ◌∷◌, ◌++◌}
use mathlib.Core.Bool.{Bool, true, false, cond, ◌&&◌}
use mathlib.Core.Option.{Option, none, some}
use lib.ListN.{length}
use lib.Dec.{T}
use Rattle.mir.specs.declared.ValueId.{ValueId}
use Rattle.mir.specs.declared.TypeId.{TypeId}
use Rattle.mir.specs.declared.Value.{Value}
use Rattle.mir.specs.Syntax.{Place, Meta, Instruction, InstructionKind, plain}
use Rattle.mir.specs.Syntax.{Assign, UnaryOp, BinaryOp, Call, Cast, Load, Store, Debug, Nop, Phi}
use Rattle.mir.specs.Syntax.{MakeTuple, ExtractTupleElement, MakeStruct, ExtractStructField, InsertField, InsertTuple, MakeFixedArray, AssertEq, HeapAllocCells}
use Rattle.fold.specs.declared.Edition.{Edition}
use Rattle.fold.specs.declared.Settings.{Settings}
use Rattle.mir.specs.Lookup.{Types, row_of, is_aggregate, on_some}
use Rattle.rewrite.specs.declared.Counts.{Counts}
use Rattle.rewrite.specs.declared.Fault.{Fault}
use Rattle.rewrite.specs.State.{AggStates, state_of}
use Rattle.rewrite.specs.Rebuild.{Rebuilt, untouched, keep_value, rebuild_value, one_value, rebuild_all, aggregate_type}
use Rattle.rewrite.specs.Readings.{readings}
use Rattle.rewrite.specs.Piece.{no_counts, materialized, Piece, kept, left, tracked, assigned}
use Rattle.rewrite.specs.Stays.{guarded, store_rebuilt, store_kept, step_call, stays_first, kept_behind, stays_second, stays_in, stays}
use Rattle.rewrite.specs.Step.{step_build, step_insert, hand_on, step_extract, step_loaded, step_load, step_store, step_assign, walkable, step_kind, step}
use Rattle.rewrite.specs.Sum.{before_store, before, built_before}
use Rattle.rewrite.specs.Lowers.{Rebuilds, Stands, Leaves}
use Rattle.rewrite.proofs.Steps.{to, rebuild_one, rebuilds_arguments, strict_count}
use Rattle.rewrite.proofs.Deep.{Stood, stood}

-- MadeFirst S n i p k: the step at i gives the piece p, with k rebuild instructions before what i became. It is kept, left
-- out, an Assign stands for it, or it is a Call or a Store behind rebuilds.
pub data MadeFirst (S : AggStates) (n : ℕ) : Instruction → Piece → ℕ → Type 0 where
  as_kept : {i : Instruction} → MadeFirst S n i (kept S i) 0
  as_left : {i : Instruction} {ds : List ValueId} (c : Counts) (S' : AggStates) → Leaves i.kind ds → MadeFirst S n i (left c ds S') 0
  as_assigned : {i : Instruction} {d : ValueId} {x : Value} {t : TypeId} (c : Counts) → Stands i.kind (Assign d x t) → MadeFirst S n i (assigned c S d x t) 0
  as_called : (a : Meta) (rs : List ValueId) (f : ℕ) (ps qs : List TypeId) {xs ys : List Value} {bs : List Instruction} (ts : List TypeId)
      (fault : ℕ → Option Fault) → Rebuilds false n xs ys bs (n + length ts) → MadeFirst S n (record { meta = a; kind = Call rs f xs ps qs })
      (record {
        out = bs ++ (plain (Call rs f ys ps qs) ∷ []);
        dropped = [];
        states = S;
        fresh = ts;
        counts = materialized
            (length ts);
        changed = true;
        fault = fault;
      }) (length bs)
  as_stored : (a : Meta) (p : Place) (t : TypeId) {x y : Value} {bs : List Instruction} (ts : List TypeId) (fault : ℕ → Option Fault) → Rebuilds false n
      (x ∷ []) (y ∷ []) bs (n + length ts) → MadeFirst S n (record { meta = a; kind = Store p x t }) (record { out = bs ++ (record { meta = a; kind = Store p y t } ∷ []); dropped = []; states = S; fresh = ts; counts = no_counts; changed = true; fault = fault })
      (length bs)

-- the same in both editions: in the second any instruction may stand behind rebuilds
pub data Made (S : AggStates) (n : ℕ) : Instruction → Piece → ℕ → Type 0 where
  in_first : {i : Instruction} {p : Piece} {k : ℕ} → MadeFirst S n i p k → Made S n i p k
  as_behind : (i : Instruction) (r : Rebuilt) → Stood n (readings i.kind) r → Made S n i (kept_behind S i r) (length r.fresh)

-- what an arm gives, whatever stands where the instruction stays: that, or the instruction is left out, or an Assign stands for it
pub data Arm (S : AggStates) (i : Instruction) (stay : Piece) : Piece → Type 0 where
  stays_it : Arm S i stay stay
  leaves_it : {ds : List ValueId} (c : Counts) (S' : AggStates) → Leaves i.kind ds → Arm S i stay (left c ds S')
  assigns_it : {d : ValueId} {x : Value} {t : TypeId} (c : Counts) → Stands i.kind (Assign d x t) → Arm S i stay (assigned c S d x t)

module _ (S : AggStates) (i : Instruction) (stay : Piece) where
  -- a build
  arm_build : (d : ValueId) (o : Option (List Value)) → Leaves i.kind (d ∷ []) → Arm S i stay (step_build S stay d o)
  unfolding step_build tracked
  arm_build d none l = Arm.stays_it
  arm_build d (some xs) l = Arm.leaves_it _ _ l

  -- an insert
  arm_insert : (d : ValueId) (o : Option (List Value)) → Leaves i.kind (d ∷ []) → Arm S i stay (step_insert S stay d o)
  unfolding step_insert tracked
  arm_insert d none l = Arm.stays_it
  arm_insert d (some xs) l = Arm.leaves_it _ _ l

  -- an Assign
  arm_assign : (d : ValueId) (o : Option (List Value)) → Leaves i.kind (d ∷ []) → Arm S i stay (step_assign S stay d o)
  unfolding step_assign tracked
  arm_assign d none l = Arm.stays_it
  arm_assign d (some xs) l = Arm.leaves_it _ _ l

  -- a part handed on
  arm_hand : (d : ValueId) (t : TypeId) (x : Value) (o : Option (List Value)) → Stands i.kind (Assign d x t) → Leaves i.kind (d ∷ []) → Arm S i stay (hand_on S d t x o)
  unfolding hand_on tracked
  arm_hand d t x none s l = Arm.assigns_it _ s
  arm_hand d t x (some xs) s l = Arm.leaves_it _ _ l

  -- an extract
  arm_extract : (d : ValueId) (t : TypeId) (o : Option Value) → ((x : Value) → Stands i.kind (Assign d x t)) → Leaves i.kind (d ∷ []) → Arm S i stay (step_extract S stay d t o)
  unfolding step_extract
  arm_extract d t none s l = Arm.stays_it
  arm_extract d t (some x) s l = arm_hand d t x (state_of S x) (s x) l

  -- a Load whose chain was walked
  arm_loaded : (τ : Types) (d : ValueId) (t : TypeId) (o : Option Value) → ((x : Value) → Stands i.kind (Assign d x t)) → Leaves i.kind (d ∷ []) → Arm S i stay (step_loaded τ S stay d t o)
  unfolding step_loaded
  arm_loaded τ d t none s l = Arm.stays_it
  arm_loaded τ d t (some x) s l = arm_hand d t x _ (s x) l

  -- a Load
  arm_load : (τ : Types) (d : ValueId) (p : Place) (t : TypeId) (o : Option ℕ) → ((x : Value) → Stands i.kind (Assign d x t)) → Leaves i.kind (d ∷ []) → Arm S i stay (step_load τ S stay d p t o)
  unfolding step_load
  arm_load τ d p t none s l = Arm.stays_it
  arm_load τ d p t (some k) s l = arm_loaded τ d t _ s l

  -- a Store
  arm_store : (o : Option AggStates) → Leaves i.kind [] → Arm S i stay (step_store S stay o)
  unfolding step_store
  arm_store none l = Arm.stays_it
  arm_store (some S') l = Arm.leaves_it _ _ l

  -- an arm that a setting may turn off
  arm_guarded : (b : Bool) (p : Piece) → Arm S i stay p → Arm S i stay (guarded b stay p)
  unfolding guarded
  arm_guarded true p m = m
  arm_guarded false p m = Arm.stays_it

module _ (σ : Settings) (τ : Types) (folds : ValueId → Bool) (S : AggStates) (n : ℕ) where
  pub arm_kind : (a : Meta) (k : InstructionKind) → let i : Instruction = record { meta = a; kind = k } in Arm S i (stays σ τ S n i) (step_kind σ τ folds S n i k)
  unfolding step_kind
  arm_kind a (Assign d x t) = arm_assign S _ _ d _ (Leaves.assign d x t)
  arm_kind a (UnaryOp op d x) = Arm.stays_it
  arm_kind a (BinaryOp op d x y) = Arm.stays_it
  arm_kind a (Call ds f xs ps rs) = Arm.stays_it
  arm_kind a (Cast d x t u) = Arm.stays_it
  arm_kind a (Load d p t) = arm_guarded S _ _ _ _ (arm_load S _ _ τ d p t _ (Stands.load d p t) (Leaves.load d p t))
  arm_kind a (Store p x t) = arm_guarded S _ _ _ _ (arm_store S _ _ _ (Leaves.store p x t))
  arm_kind a (Debug m xs) = Arm.stays_it
  arm_kind a Nop = Arm.stays_it
  arm_kind a (Phi d t ss) = Arm.stays_it
  arm_kind a (MakeTuple d xs) = arm_build S _ _ d _ (Leaves.tuple d xs)
  arm_kind a (ExtractTupleElement d x k t) = arm_guarded S _ _ _ _ (arm_extract S _ _ d t _ (Stands.element d x k t) (Leaves.element d x k t))
  arm_kind a (MakeStruct d fs t) = arm_build S _ _ d _ (Leaves.struct d fs t)
  arm_kind a (ExtractStructField d x f t) = arm_guarded S _ _ _ _ (arm_extract S _ _ d t _ (Stands.field d x f t) (Leaves.field d x f t))
  arm_kind a (InsertField d x f y t) = arm_guarded S _ _ _ _ (arm_insert S _ _ d _ (Leaves.insert_field d x f y t))
  arm_kind a (InsertTuple d x k y t) = arm_guarded S _ _ _ _ (arm_insert S _ _ d _ (Leaves.insert_tuple d x k y t))
  arm_kind a (MakeFixedArray d xs t c) = arm_build S _ _ d _ (Leaves.array d xs t c)
  arm_kind a (AssertEq x y) = Arm.stays_it
  arm_kind a (HeapAllocCells d x) = Arm.stays_it

module _ (S : AggStates) (n : ℕ) where
  -- kept, with no rebuilds before it
  made_none : (i : Instruction) (k : ℕ) → k ≡ 0 → MadeFirst S n i (kept S i) k
  made_none i k e = rw e MadeFirst.as_kept

  -- a Call: where no number was taken, there is no rebuild either
  made_call : (a : Meta) (ds : List ValueId) (f : ℕ) (xs : List Value) (ps rs : List TypeId) (r : Rebuilt) (ts : List TypeId) → Rebuilds false n xs r.values r.before (n + length ts) → MadeFirst S n (record { meta = a; kind = Call ds f xs ps rs }) (step_call S (record { meta = a; kind = Call ds f xs ps rs }) ds f ps rs r ts) (length r.before)
  unfolding step_call
  made_call a ds f xs ps rs r [] h = made_none _ _ (omega (arith, strict_count h))
  made_call a ds f xs ps rs r (t ∷ ts) h = MadeFirst.as_called a ds f ps rs (t ∷ ts) _ h

  -- a Store that is not forwarded
  made_store_at : (τ : Types) (a : Meta) (p : Place) (x : Value) (t : TypeId) (s : Option (List Value)) → state_of S x ≡ s → T (is_aggregate (row_of τ (some t))) → MadeFirst S n (record { meta = a; kind = Store p x t }) (store_kept τ S n (record { meta = a; kind = Store p x t }) p x t s) (length (rebuild_all τ S n (record { value = x; at = some t } ∷ [])).before)
  unfolding store_kept rebuild_all store_rebuilt one_value keep_value rebuild_value
  made_store_at τ a p x t none e g = rw e MadeFirst.as_kept
  made_store_at τ a p x t (some zs) e g = rw e (MadeFirst.as_stored a p t (t ∷ []) _ (rebuild_one τ false n x [] (λ m. untouched []) (some t) (some zs) g (λ m. to _ (omega arith) Rebuilds.none)))

  made_store_if : (τ : Types) (a : Meta) (p : Place) (x : Value) (t : TypeId) (b : Bool) → is_aggregate (row_of τ (some t)) ≡ b → MadeFirst S n (record { meta = a; kind = Store p x t }) (store_kept τ S n (record { meta = a; kind = Store p x t }) p x t (on_some (cond b (some t) none) (λ u. state_of S x))) (length (rebuild_all τ S n (record { value = x; at = cond b (some t) none } ∷ [])).before)
  unfolding on_some store_kept rebuild_all one_value keep_value
  made_store_if τ a p x t true e = made_store_at τ a p x t (state_of S x) refl ((rw e tt))
  made_store_if τ a p x t false e = MadeFirst.as_kept

  -- a Store's arm, where tuples are on or off
  made_store : (τ : Types) (a : Meta) (p : Place) (x : Value) (t : TypeId) (b : Bool) (o : Option AggStates) →
      let i : Instruction = record { meta = a; kind = Store p x t } in
      let stay = guarded b (kept S i) (store_kept τ S n i p x t (on_some (aggregate_type τ t) (λ u. state_of S x))) in
      MadeFirst S n i (guarded (b && true) stay (step_store S stay o)) (cond b (before_store τ S n x t o) 0)
  unfolding guarded step_store before_store aggregate_type
  made_store τ a p x t true none = made_store_if τ a p x t (is_aggregate (row_of τ (some t))) refl
  made_store τ a p x t true (some S') = MadeFirst.as_left _ _ (Leaves.store p x t)
  made_store τ a p x t false o = MadeFirst.as_kept

  -- an arm over an instruction that is kept where it stays
  made_arm : (i : Instruction) (p : Piece) → Arm S i (kept S i) p → MadeFirst S n i p 0
  made_arm i p Arm.stays_it = MadeFirst.as_kept
  made_arm i p (Arm.leaves_it c S' l) = MadeFirst.as_left c S' l
  made_arm i p (Arm.assigns_it c s) = MadeFirst.as_assigned c s

  -- and over one that stands behind rebuilds
  made_behind : (i : Instruction) (r : Rebuilt) (p : Piece) → Stood n (readings i.kind) r → Arm S i (kept_behind S i r) p → Made S n i p (length p.fresh)
  unfolding kept_behind left assigned
  made_behind i r p h Arm.stays_it = Made.as_behind i r h
  made_behind i r p h (Arm.leaves_it c S' l) = Made.in_first (MadeFirst.as_left c S' l)
  made_behind i r p h (Arm.assigns_it c s) = Made.in_first (MadeFirst.as_assigned c s)

-- what a step gives is one of them
module _ (σ : Settings) (τ : Types) (folds : ValueId → Bool) (S : AggStates) (n : ℕ) where
  pub at_first : (i : Instruction) → σ.edition ≡ Edition.First → stays σ τ S n i ≡ stays_first σ τ S n i i.kind
  unfolding stays stays_in
  at_first i e = rw e

  at_second : (i : Instruction) → σ.edition ≡ Edition.Second → stays σ τ S n i ≡ stays_second τ S n i
  unfolding stays stays_in
  at_second i e = rw e

  -- an arm of edition 1, where all that stays is kept
  kept_arm : (a : Meta) (k : InstructionKind) → σ.edition ≡ Edition.First → let i : Instruction = record { meta = a; kind = k } in stays_first σ τ S n i k ≡ kept S i → MadeFirst S n i (step_kind σ τ folds S n i k) 0
  kept_arm a k e f = made_arm S n _ _ (rw (at_first _ e ∙ f) at (arm_kind σ τ folds S n a k))

  first_call : (a : Meta) (ds : List ValueId) (f : ℕ) (xs : List Value) (ps rs : List TypeId) → σ.edition ≡ Edition.First → let i : Instruction = record { meta = a; kind = Call ds f xs ps rs } in MadeFirst S n i (step_kind σ τ folds S n i i.kind) (before σ τ S n i.kind)
  unfolding step_kind before stays_first
  first_call a ds f xs ps rs e = rw (at_first _ e) (made_call S n a ds f xs ps rs _ _ (rebuilds_arguments τ S n xs ps))

  first_store : (a : Meta) (p : Place) (x : Value) (t : TypeId) → σ.edition ≡ Edition.First → let i : Instruction = record { meta = a; kind = Store p x t } in MadeFirst S n i (step_kind σ τ folds S n i i.kind) (before σ τ S n i.kind)
  unfolding step_kind before stays_first walkable
  first_store a p x t e = rw (at_first (record { meta = a; kind = Store p x t }) e, e) (made_store S n τ a p x t σ.tuples _)

  made_first : (a : Meta) (k : InstructionKind) → σ.edition ≡ Edition.First → let i : Instruction = record { meta = a; kind = k } in MadeFirst S n i (step_kind σ τ folds S n i k) (before σ τ S n k)
  unfolding before stays_first
  made_first a (Assign d x t) e = kept_arm a _ e refl
  made_first a (UnaryOp op d x) e = kept_arm a _ e refl
  made_first a (BinaryOp op d x y) e = kept_arm a _ e refl
  made_first a (Call ds f xs ps rs) e = first_call a ds f xs ps rs e
  made_first a (Cast d x t u) e = kept_arm a _ e refl
  made_first a (Load d p t) e = kept_arm a _ e refl
  made_first a (Store p x t) e = first_store a p x t e
  made_first a (Debug m xs) e = kept_arm a _ e refl
  made_first a Nop e = kept_arm a _ e refl
  made_first a (Phi d t ss) e = kept_arm a _ e refl
  made_first a (MakeTuple d xs) e = kept_arm a _ e refl
  made_first a (ExtractTupleElement d x k t) e = kept_arm a _ e refl
  made_first a (MakeStruct d fs t) e = kept_arm a _ e refl
  made_first a (ExtractStructField d x f t) e = kept_arm a _ e refl
  made_first a (InsertField d x f y t) e = kept_arm a _ e refl
  made_first a (InsertTuple d x k y t) e = kept_arm a _ e refl
  made_first a (MakeFixedArray d xs t c) e = kept_arm a _ e refl
  made_first a (AssertEq x y) e = kept_arm a _ e refl
  made_first a (HeapAllocCells d x) e = kept_arm a _ e refl

  made_second : (i : Instruction) → σ.edition ≡ Edition.Second → Made S n i (step_kind σ τ folds S n i i.kind) (length (step_kind σ τ folds S n i i.kind).fresh)
  unfolding stays_second
  made_second i e = made_behind S n i _ _ (stood τ S n (readings i.kind)) (rw (at_second i e) at (arm_kind σ τ folds S n i.meta i.kind))

  -- each step of edition 1, by its kind
  pub made_in_first : (i : Instruction) → σ.edition ≡ Edition.First → MadeFirst S n i (step σ τ folds S n i) (before σ τ S n i.kind)
  unfolding step
  made_in_first i = made_first i.meta i.kind

  -- and of both editions
  pub made : (i : Instruction) → let p = step σ τ folds S n i in Made S n i p (built_before σ.edition (before σ τ S n i.kind) p.fresh)
  unfolding step built_before
  made i = split σ.edition refl
    where
      split : (ed : Edition) → σ.edition ≡ ed → let p = step_kind σ τ folds S n i i.kind in Made S n i p (built_before ed (before σ τ S n i.kind) p.fresh)
      split Edition.First e = Made.in_first (made_first i.meta i.kind e)
      split Edition.Second e = made_second i e
