-- One instruction: what becomes of a Call, a Store or any other kind, and what of it is put out.
use Prim.Native.Nat.{ℕ, ◌≤◌}
use mathlib.Core.Path.{◌≡◌, refl, ap, ◌∙◌, sym}
use mathlib.Core.List.{List, [], ◌++◌}
use mathlib.Core.Bool.{Bool, true, false, ◌&&◌}
use mathlib.Core.Option.{Option, none, some}
use native.Mathlib.Omega.{arith}
use lib.ListN.{length}
use lib.Seq.{length-take-le, take_at, drop_at}
use Rattle.mir.specs.declared.ValueId.{ValueId}
use Rattle.mir.specs.declared.TypeId.{TypeId}
use Rattle.mir.specs.declared.Value.{Value}
use Rattle.mir.specs.Syntax.{Place, Instruction, InstructionKind}
use Rattle.mir.specs.Syntax.{Assign, UnaryOp, BinaryOp, Call, Cast, Load, Store, Debug, Nop, Phi}
use Rattle.mir.specs.Syntax.{MakeTuple, ExtractTupleElement, MakeStruct, ExtractStructField, InsertField, InsertTuple, MakeFixedArray, AssertEq, HeapAllocCells}
use Rattle.mir.specs.Reads.{kind_number}
use Rattle.bytes_index.specs.declared.code.Code.{Code}
use Rattle.fold.specs.declared.Edition.{Edition}
use Rattle.fold.specs.declared.Settings.{Settings}
use Rattle.mir.specs.Lookup.{Types, is_some, on_some}
use Rattle.fold.specs.Family.{Marks}
use Rattle.rewrite.specs.State.{AggStates, forward_store, state_of}
use Rattle.rewrite.specs.Rebuild.{rebuild_all, wanted_arguments, aggregate_type}
use Rattle.rewrite.specs.Piece.{Piece, kept, left, one_insert}
use Rattle.rewrite.specs.Deep.{rebuild_deep, wanted_own}
use Rattle.rewrite.specs.Readings.{readings}
use Rattle.rewrite.specs.Stays.{step_call, store_kept, guarded, stays, stays_in, stays_first, kept_behind, stays_second}
use Rattle.rewrite.specs.Step.{step, step_kind, step_store, walkable}
use Rattle.rewrite_parts.specs.Rows.{Rep, rows_in, fresh_in}
use Rattle.rewrite_parts.specs.Here.{Here}
use Rattle.rewrite_progress.specs.declared.Progress.{Progress}
use Rattle.std.specs.Prelude.{Result, Ok, Err}
use Rattle.rewrite.specs.declared.Fault.{Fault}
use Rattle.rewrite_progress.specs.Effect.{Output, behind, piece_effect}
use Rattle.rewrite.proofs.StaysStates.{stays_states, call_states, store_states}
use Rattle.rewrite_chains.specs.Chained.{OfPlace, of_store, states_after}
use Rattle.rewrite_arms.specs.declared.Action.{Action}
use Rattle.rewrite_arms.specs.Decided.{Does, Decided}
use Rattle.rewrite_step.specs.declared.Rewrite.{Rewrite}
use Rattle.rewrite_arms.specs.declared.Used.{Used}
use Rattle.rewrite_step.specs.Stepping.{Lent, lent_as, staying, as_decided, output_in, PutsIn, CallPiece, call_piece, StorePiece, store_piece, Becomes, Settles, Steps, fresh_from, SettlesAll, PutsPiece, StepsOn}
use Rattle.rewrite_perform.specs.Performed.{raised_by, Performs}
use Rattle.rewrite_perform.proofs.Performing.{left_none}
use Rattle.rewrite_progress.proofs.Faults.{puts_effect}

data CallKind (k : InstructionKind) : Type 0 where
  is_call : (ds : List ValueId) (f : ℕ) (xs : List Value) (ps rs : List TypeId) → k ≡ Call ds f xs ps rs → CallKind k

call_kind_lem : (k : InstructionKind) → kind_number k ≡ 3 → CallKind k
call_kind_lem (Assign d x t) h = absurd (omega arith)
call_kind_lem (UnaryOp op d x) h = absurd (omega arith)
call_kind_lem (BinaryOp op d x y) h = absurd (omega arith)
call_kind_lem (Call ds f xs ps rs) h = is_call ds f xs ps rs refl
call_kind_lem (Cast d x t u) h = absurd (omega arith)
call_kind_lem (Load d p t) h = absurd (omega arith)
call_kind_lem (Store p x t) h = absurd (omega arith)
call_kind_lem (Debug n xs) h = absurd (omega arith)
call_kind_lem Nop h = absurd (omega arith)
call_kind_lem (Phi d t ss) h = absurd (omega arith)
call_kind_lem (MakeTuple d xs) h = absurd (omega arith)
call_kind_lem (ExtractTupleElement d x k t) h = absurd (omega arith)
call_kind_lem (MakeStruct d fs t) h = absurd (omega arith)
call_kind_lem (ExtractStructField d x n t) h = absurd (omega arith)
call_kind_lem (InsertField d x n y t) h = absurd (omega arith)
call_kind_lem (InsertTuple d x k y t) h = absurd (omega arith)
call_kind_lem (MakeFixedArray d xs t c) h = absurd (omega arith)
call_kind_lem (AssertEq x y) h = absurd (omega arith)
call_kind_lem (HeapAllocCells d x) h = absurd (omega arith)

data StoreKind (k : InstructionKind) : Type 0 where
  is_store : (p : Place) (x : Value) (t : TypeId) → k ≡ Store p x t → StoreKind k

store_kind_lem : (k : InstructionKind) → kind_number k ≡ 6 → StoreKind k
store_kind_lem (Assign d x t) h = absurd (omega arith)
store_kind_lem (UnaryOp op d x) h = absurd (omega arith)
store_kind_lem (BinaryOp op d x y) h = absurd (omega arith)
store_kind_lem (Call ds f xs ps rs) h = absurd (omega arith)
store_kind_lem (Cast d x t u) h = absurd (omega arith)
store_kind_lem (Load d p t) h = absurd (omega arith)
store_kind_lem (Store p x t) h = is_store p x t refl
store_kind_lem (Debug n xs) h = absurd (omega arith)
store_kind_lem Nop h = absurd (omega arith)
store_kind_lem (Phi d t ss) h = absurd (omega arith)
store_kind_lem (MakeTuple d xs) h = absurd (omega arith)
store_kind_lem (ExtractTupleElement d x k t) h = absurd (omega arith)
store_kind_lem (MakeStruct d fs t) h = absurd (omega arith)
store_kind_lem (ExtractStructField d x n t) h = absurd (omega arith)
store_kind_lem (InsertField d x n y t) h = absurd (omega arith)
store_kind_lem (InsertTuple d x k y t) h = absurd (omega arith)
store_kind_lem (MakeFixedArray d xs t c) h = absurd (omega arith)
store_kind_lem (AssertEq x y) h = absurd (omega arith)
store_kind_lem (HeapAllocCells d x) h = absurd (omega arith)

-- a writer's answer, with how much of the rows is used, is a step's
pub data WithUsed (used : ℕ) (r : Result Progress Fault) (t : Result (Used Progress) Fault) : Type 0 where
  fault_too : (f : Fault) → r ≡ Err f → t ≡ Err f → WithUsed used r t
  went_too : (p : Progress) → r ≡ Ok p → t ≡ Ok (record { value = p; used = used }) → WithUsed used r t

pub steps_put : (next : ℕ) (s : List ℕ) (o : Output) (q : Piece) (l : Lent) (r : Result Progress Fault) (t : Result (Used Progress) Fault) (used : ℕ) → WithUsed used r t → Rep next s l.tracked (rows_in l.work) used q.states → PutsIn o (piece_effect q) q.fault l r → Steps next s o q l t
steps_put next s o q l r t used (fault_too f e k) h p =
    record {
      refused = λ g z. let y : f ≡ g = cc in p.refused f e ∙ ap some y;
      went = λ w z. absurd (let u : ◌≡◌ {A = ℕ} 0 1 = cc in omega arith);
    }
steps_put next s o q l r t used (went_too v e f) h p =
    let z = p.went v e in
    record {
      refused = λ x y. absurd (let u : ◌≡◌ {A = ℕ} 0 1 = cc in omega arith);
      went = λ w y. let x : w ≡ record { value = v; used = used } = cc in rw x (record { safe = z.0; out = z.1; rep = h });
    }

-- a kind that is none of those that edition 1 rebuilds for
module _ (σ : Settings) (τ : Types) (S : AggStates) (n : ℕ) (i : Instruction) where
  first_kept : (k : InstructionKind) → (kind_number k ≡ 3 → ⊥) → (kind_number k ≡ 6 → ⊥) → stays_first σ τ S n i k ≡ kept S i
  unfolding stays_first
  first_kept (Assign d x t) n3 n6 = refl
  first_kept (UnaryOp op d x) n3 n6 = refl
  first_kept (BinaryOp op d x y) n3 n6 = refl
  first_kept (Call ds f xs ps rs) n3 n6 = absurd (n3 refl)
  first_kept (Cast d x t u) n3 n6 = refl
  first_kept (Load d p t) n3 n6 = refl
  first_kept (Store p x t) n3 n6 = absurd (n6 refl)
  first_kept (Debug m xs) n3 n6 = refl
  first_kept Nop n3 n6 = refl
  first_kept (Phi d t ss) n3 n6 = refl
  first_kept (MakeTuple d xs) n3 n6 = refl
  first_kept (ExtractTupleElement d x k t) n3 n6 = refl
  first_kept (MakeStruct d fs t) n3 n6 = refl
  first_kept (ExtractStructField d x f t) n3 n6 = refl
  first_kept (InsertField d x f y t) n3 n6 = refl
  first_kept (InsertTuple d x k y t) n3 n6 = refl
  first_kept (MakeFixedArray d xs t c) n3 n6 = refl
  first_kept (AssertEq x y) n3 n6 = refl
  first_kept (HeapAllocCells d x) n3 n6 = refl

-- what becomes of an instruction, by its kind
module _ (σ : Settings) (τ : Types) (folds : ValueId → Bool) (S : AggStates) (n : ℕ) (i : Instruction) (next : ℕ) (s : List ℕ) (tracked : Marks) (rows : List ℕ) (used : ℕ) where
  abbrev piece : Piece
  piece = step σ τ folds S n i

  abbrev stay : Piece
  stay = stays σ τ S n i

  abbrev As : Rewrite → Type 0
  As r = Settles τ next s tracked rows S n i piece (record { value = r; used = used })

  -- what stands where it stays, by the edition
  stays_as : (e : Edition) → σ.edition ≡ e → stay ≡ stays_in e σ τ S n i
  unfolding stays
  stays_as e z = ap (λ d. stays_in d σ τ S n i) z

  first_as : (k : InstructionKind) → σ.edition ≡ Edition.First → i.kind ≡ k → stay ≡ stays_first σ τ S n i k
  unfolding stays_in
  first_as k first e = stays_as Edition.First first ∙ ap (stays_first σ τ S n i) e

  second_as : σ.edition ≡ Edition.Second → stay ≡ stays_second τ S n i
  unfolding stays_in
  second_as second = stays_as Edition.Second second

  -- it stays: in edition 1 it is r
  settles_stay : (r : Rewrite) → piece ≡ stay → Rep next s tracked rows used S → (σ.edition ≡ Edition.First → Becomes τ next s S n i piece r) → As (staying σ.edition r)
  settles_stay r e rep f = go σ.edition refl
    where
      held : Rep next s tracked rows used piece.states
      held = rw (ap (λ p. p.states) e ∙ stays_states σ τ S n i) rep

      go : (d : Edition) → σ.edition ≡ d → As (staying d r)
      go Edition.First z = record { rep = held; becomes = f z }
      go Edition.Second z = record { rep = held; becomes = e ∙ second_as z }

  -- a Call
  pub call_settles : kind_number i.kind ≡ 3 → Rep next s tracked rows used S → As (staying σ.edition Rewrite.Call)
  unfolding step step_kind stays_first
  call_settles h rep =
      elim (call_kind_lem i.kind h) [
        | is_call ds f xs ps rs z ↦
            let q : piece ≡ stay = ap (step_kind σ τ folds S n i) z in
            settles_stay Rewrite.Call q rep (λ first. call_piece ds f xs ps rs z (q ∙ first_as (Call ds f xs ps rs) first z))
      ]

  -- an instruction that is no Call and no Store
  pub other_settles : (a : Action) → (kind_number i.kind ≡ 3 → ⊥) → (kind_number i.kind ≡ 6 → ⊥) → Decided next s tracked rows S stay piece (record { value = a; used = used }) → As (as_decided σ.edition a)
  other_settles Action.Keep n3 n6 d =
      let q : piece ≡ stay = d.does in
      settles_stay (Rewrite.Does Action.Keep) q (rw (ap (λ p. p.states) q ∙ stays_states σ τ S n i) at d.rep)
      (λ first. q ∙ first_as i.kind first refl ∙ first_kept σ τ S n i i.kind n3 n6)
  other_settles (Action.Track v c) n3 n6 d = record { rep = d.rep; becomes = d.does }
  other_settles (Action.Assign v place t) n3 n6 d = record { rep = d.rep; becomes = d.does }

  -- a Store: where it stays in edition 1, and where the states take it
  store_stays : (p : Place) (x : Value) (t : TypeId) → σ.edition ≡ Edition.First → i.kind ≡ Store p x t → stay ≡ guarded σ.tuples (kept S i) (store_kept τ S n i p x t (on_some (aggregate_type τ t) (λ u. state_of S x)))
  unfolding stays_first
  store_stays p x t first e = first_as (Store p x t) first e

  store_step : (p : Place) (x : Value) (t : TypeId) {on : Bool} → i.kind ≡ Store p x t → (σ.tuples && walkable σ.edition p) ≡ on → piece ≡ guarded on stay (step_store S stay (forward_store τ S p x))
  unfolding step step_kind
  store_step p x t e f = ap (step_kind σ τ folds S n i) e ∙ ap (λ u. guarded u stay (step_store S stay (forward_store τ S p x))) f

  stored_went : (o : Option AggStates) → is_some o ≡ true → (step_store S stay o ≡ left one_insert [] (states_after S o)) × ((step_store S stay o).states ≡ states_after S o)
  unfolding step_store states_after is_some left
  stored_went none e = absurd (let z : ◌≡◌ {A = ℕ} 0 1 = cc in omega arith)
  stored_went (some S') e = (refl, refl)

  stored_stays : (o : Option AggStates) → is_some o ≡ false → (step_store S stay o ≡ stay) × (states_after S o ≡ S)
  unfolding step_store states_after is_some
  stored_stays none e = (refl, refl)
  stored_stays (some S') e = absurd (let z : ◌≡◌ {A = ℕ} 0 1 = cc in omega arith)

  -- a Store where the setting is off
  pub store_off : kind_number i.kind ≡ 6 → σ.tuples ≡ false → Rep next s tracked rows used S → As (staying σ.edition (Rewrite.Does Action.Keep))
  unfolding guarded
  store_off h e rep =
      elim (store_kind_lem i.kind h) [
        | is_store p x t z ↦
            let own = store_kept τ S n i p x t (on_some (aggregate_type τ t) (λ u. state_of S x)) in
            let q : piece ≡ stay = store_step p x t z (ap (λ u. u && walkable σ.edition p) e) in
            settles_stay (Rewrite.Does Action.Keep) q rep (λ first. q ∙ store_stays p x t first z ∙ ap (λ u. guarded u (kept S i) own) e)
      ]

  module _ (h : kind_number i.kind ≡ 6) (on : σ.tuples ≡ true) where
    -- a Store that is written
    written : (p : Place) (x : Value) (t : TypeId) → i.kind ≡ Store p x t → piece ≡ stay → Rep next s tracked rows used S → As (staying σ.edition Rewrite.Store)
    unfolding guarded
    written p x t z q rep =
        let own = store_kept τ S n i p x t (on_some (aggregate_type τ t) (λ u. state_of S x)) in
        settles_stay Rewrite.Store q rep (λ first. store_piece p x t z (q ∙ store_stays p x t first z ∙ ap (λ u. guarded u (kept S i) own) on))

    module _ {walks : Bool} (fw : (p : Place) → OfPlace i.kind 6 p → walks ≡ walkable σ.edition p) where
      walks_as : (p : Place) (x : Value) (t : TypeId) → i.kind ≡ Store p x t → (σ.tuples && walkable σ.edition p) ≡ walks
      walks_as p x t z = ap (λ u. u && walkable σ.edition p) on ∙ sym (fw p (rw z (of_store p x t)))

      -- as its place cannot be walked
      pub store_barred : walks ≡ false → Rep next s tracked rows used S → As (staying σ.edition Rewrite.Store)
      unfolding guarded
      store_barred off rep = elim (store_kind_lem i.kind h) [ is_store p x t z ↦ written p x t z (store_step p x t z (walks_as p x t z ∙ off)) rep ]

      module _ (walked : walks ≡ true) (forwarded : Bool) (f : (p : Place) (x : Value) (t : TypeId) → i.kind ≡ Store p x t → (forwarded ≡ is_some (forward_store τ S p x)) × Rep next s tracked rows used (states_after S (forward_store τ S p x))) where
        stored : (p : Place) (x : Value) (t : TypeId) → i.kind ≡ Store p x t → piece ≡ step_store S stay (forward_store τ S p x)
        unfolding guarded
        stored p x t z = store_step p x t z (walks_as p x t z ∙ walked)

        -- a Store that is forwarded
        pub store_forwarded : forwarded ≡ true → As Rewrite.Forwarded
        store_forwarded e =
            elim (store_kind_lem i.kind h) [
              | is_store p x t z ↦
                  let w = f p x t z in
                  let v = stored_went (forward_store τ S p x) (sym w.0 ∙ e) in
                  let y : piece.states ≡ states_after S (forward_store τ S p x) = ap (λ u. u.states) (stored p x t z) ∙ v.1 in
                  record { rep = rw y w.1; becomes = stored p x t z ∙ v.0 ∙ sym (ap (λ u. left one_insert [] u) y) }
            ]

        -- as nothing is changed
        pub store_written : forwarded ≡ false → As (staying σ.edition Rewrite.Store)
        store_written e =
            elim (store_kind_lem i.kind h) [
              | is_store p x t z ↦
                  let w = f p x t z in
                  let y = stored_stays (forward_store τ S p x) (sym w.0 ∙ e) in
                  written p x t z (stored p x t z ∙ y.0) (rw y.1 at w).1
            ]

-- what was settled is put out
module _ (code : Code) (slot : ℕ) (τ : Types) (S : AggStates) (used : ℕ) (i : Instruction) (q : Piece) (l : Lent) (p : Progress) (rewrite : Rewrite) (h : Here code.bounds code.bytes.now code.facts.now slot l.tracked (rows_in l.work) used τ q.states i) (becomes : Becomes τ code.bounds.next code.bytes.now S (fresh_from code.bounds p) i q rewrite) where
  abbrev Out : Lent → Result Progress Fault → Type 0
  Out l' r = PutsIn (output_in l p) (piece_effect q) q.fault l' r

  -- an action
  pub put_does : (action : Action) (out' : List ℕ) (dropped' : Marks) (r : Result Progress Fault) → rewrite ≡ Rewrite.Does action → Performs code slot action p l.out l.dropped out' dropped' r → Out (lent_as l.tracked dropped' l.work out') r
  put_does action out' dropped' r e f =
      let d : Does code.bounds.next code.bytes.now S (kept S i) q action = rw e at becomes in
      f τ S i q (fresh_in l.work) h.ground h.line d

  -- a Store that was forwarded
  pub put_forwarded : (r : Progress) → rewrite ≡ Rewrite.Forwarded → r ≡ raised_by p one_insert → Out l (Ok r)
  unfolding left
  put_forwarded r e f =
      let d : q ≡ left one_insert [] q.states = rw e at becomes in
      puts_effect _ _ _ l.out _ l.dropped r (ap (λ x. x.fault p.lines) d) (left_none one_insert q.states l.out (fresh_in l.work) l.dropped p r f ∙ sym (ap (λ x. behind (output_in l p) (piece_effect x)) d))

  abbrev Before : Type 0
  Before = Here code.bounds code.bytes.now code.facts.now slot l.tracked (rows_in l.work) used τ S i

  same_here : q.states ≡ S → Before
  same_here e = record { ground = h.ground; rep = (rw e at h).rep; line = h.line }

  -- a Call
  pub put_called : (l' : Lent) (r : Result Progress Fault) → rewrite ≡ Rewrite.Call → ((ds : List ValueId) (f : ℕ) (xs : List Value) (ps rs : List TypeId) → Before → i.kind ≡ Call ds f xs ps rs → q ≡ step_call S i ds f ps rs (rebuild_all τ S (fresh_from code.bounds p) (wanted_arguments τ xs ps)) (rebuild_all τ S (fresh_from code.bounds p) (wanted_arguments τ xs ps)).fresh → Out l' r) → Out l' r
  put_called l' r e f =
      let d : CallPiece τ S (fresh_from code.bounds p) i q = rw e at becomes in
      elim d [
        | call_piece ds g xs ps rs z y ↦ f ds g xs ps rs (same_here (ap (λ x. x.states) y ∙ call_states S i ds g ps rs _ _)) z y
      ]

  -- a Store
  pub put_stored : (l' : Lent) (r : Result Progress Fault) → rewrite ≡ Rewrite.Store → ((v : Place) (x : Value) (t : TypeId) → Before → i.kind ≡ Store v x t → q ≡ store_kept τ S (fresh_from code.bounds p) i v x t (on_some (aggregate_type τ t) (λ u. state_of S x)) → Out l' r) → Out l' r
  put_stored l' r e f =
      let d : StorePiece τ S (fresh_from code.bounds p) i q = rw e at becomes in
      elim d [
        | store_piece v x t z y ↦ f v x t (same_here (ap (λ u. u.states) y ∙ store_states τ S _ i v x t _)) z y
      ]

  -- an instruction behind its rebuilds
  pub put_second : (l' : Lent) (r : Result Progress Fault) → rewrite ≡ Rewrite.Behind → (Before → q ≡ kept_behind S i (rebuild_deep τ S (fresh_from code.bounds p) (wanted_own τ (readings i.kind))) → Out l' r) → Out l' r
  unfolding stays_second kept_behind
  put_second l' r e f =
      let d : q ≡ stays_second τ S (fresh_from code.bounds p) i = rw e at becomes in
      f (same_here (ap (λ x. x.states) d)) d

-- a whole step: the rows are settled, then all is put out
pub step_turn : (code : Code) (σ : Settings) (slot : ℕ) (fold : Bool) (l : Lent) (w : Used Progress) (tracked dropped : Marks) (rows work out : List ℕ) (d : Used Rewrite) (r : Result Progress Fault) (t : Result (Used Progress) Fault)
    → 2432 ≤ length l.work → length rows ≡ length (rows_in l.work)
    → SettlesAll code σ slot fold l.tracked (rows_in l.work) w.used tracked rows d
    → PutsPiece code slot d.value (lent_as tracked l.dropped (rows ++ fresh_in l.work) l.out) w.value (lent_as tracked dropped work out) r
    → rows_in work ≡ rows_in (rows ++ fresh_in l.work) → WithUsed d.used r t
    → StepsOn code σ slot fold l w (lent_as tracked dropped work out) t
step_turn code σ slot fold l w tracked dropped rows work out d r t long same settles puts keeps e τ S folds i h room f bd =
    let q = step σ τ folds S (fresh_from code.bounds w.value) i in
    let z = settles τ S folds (fresh_from code.bounds w.value) i h room f in
    let size : length rows ≡ 2432 = same ∙ length-take-le 2432 l.work long in
    let front : rows_in (rows ++ fresh_in l.work) ≡ rows = take_at rows (fresh_in l.work) 2432 size in
    let back : fresh_in (rows ++ fresh_in l.work) ≡ fresh_in l.work = drop_at rows (fresh_in l.work) 2432 size in
    let rep : Rep code.bounds.next code.bytes.now tracked (rows_in (rows ++ fresh_in l.work)) d.used q.states = rw front z.rep in
    let p = puts τ S d.used i q (record { ground = h.ground; rep = rep; line = h.line }) z.becomes bd in
    steps_put code.bounds.next code.bytes.now _ q (lent_as tracked dropped work out) r t d.used e (rw keeps rep) (rw back at p)
