-- What comes out behind the phis has no phi, as what went in has none (refusal 7): so the phis of the rewritten block are the block's.
use mathlib.Core.Path.{◌≡◌, refl, ap, ◌∙◌}
use Prim.Native.Nat.{ℕ, suc, ◌+◌, zero}
use mathlib.Core.Bool.{Bool, true, false, not, ◌&&◌}
use mathlib.Core.Option.{Option, none, some}
use mathlib.Core.List.{List, [], ◌∷◌, ◌++◌}
use lib.Dec.{T}
use lib.ListN.{length, get_elem?}
use Rattle.mir.specs.declared.ValueId.{ValueId}
use Rattle.mir.specs.declared.TypeId.{TypeId}
use Rattle.mir.specs.declared.Value.{Value}
use Rattle.mir.specs.MirType.{MirType}
use Rattle.mir.specs.Syntax.{Meta, Place, Instruction, InstructionKind, Terminator, Assign, UnaryOp, BinaryOp, Call, Cast, Load, Store, Debug, Nop, Phi, plain}
use Rattle.mir.specs.Syntax.{MakeTuple, ExtractTupleElement, MakeStruct, ExtractStructField, InsertField, InsertTuple, MakeFixedArray, AssertEq, HeapAllocCells}
use Rattle.fold.specs.declared.Edition.{Edition}
use Rattle.fold.specs.declared.Settings.{Settings}
use Rattle.mir.specs.Lookup.{Types, row_of, on_some}
use Rattle.bytes_struct.specs.FindField.{field_index}
use Rattle.mir.specs.MirType as Y
use Rattle.mir.specs.Syntax.{Jump, If, BranchCmp, Return, Unreachable}
use Rattle.mir.specs.Reads.{is_phi}
use Rattle.mir.specs.Parts.{struct_parts}
use Rattle.mir.specs.Phis.{behind_phis, phis_of}
use Rattle.rewrite.specs.State.{AggStates, state_of, chain, first_integer, forward_store}
use Rattle.rewrite.specs.State as St
use Rattle.rewrite.specs.Rebuild.{Rebuilt, rebuild_at, keep_value, rebuild_value, one_value, Wanted, rebuild_all, aggregate_type, wanted_arguments, wanted_returns}
use Rattle.rewrite.specs.declared.Counts.{Counts}
use Rattle.rewrite.specs.Piece.{Piece, kept, left, tracked, assigned}
use Rattle.rewrite.specs.Stays.{store_rebuilt, store_kept, step_call, guarded, kept_behind, stays, stays_first, stays_in, stays_second}
use Rattle.rewrite.specs.Step.{step_build, folded_parts, step_insert, hand_on, step_extract, extract_index, step_loaded, step_load, step_store, step_assign, step_kind, step, walkable}
use Rattle.rewrite.specs.Run.{ends, returned, finish, glue, walk, rebuilt_return}
use Rattle.machine_simulation.specs.Static.{no_phi}
use Rattle.machine_simulation.proofs.Tools.{both_l, both_r, both, split, passes, fails, cond_yes, cond_no}
use Rattle.machine_simulation.proofs.WithReadings.{kind_with}
use Rattle.fold.specs.Family.{Marks}
use Rattle.rewrite.specs.Readings.{readings, with_readings}
use Rattle.rewrite.specs.Deep.{Inner, begun, deep_all, deep_value, deep_values, rebuild_deep, wanted_own, whole_then}

-- two lists without a phi
append_no_phi : (a b : List Instruction) → T (no_phi a) → T (no_phi b) → T (no_phi (a ++ b))
unfolding no_phi
append_no_phi [] b s t = t
append_no_phi (i ∷ a) b s t = both (not (is_phi i.kind)) (no_phi (a ++ b)) (both_l (not (is_phi i.kind)) (no_phi a) s) (append_no_phi a b (both_r (not (is_phi i.kind)) (no_phi a) s) t)

-- an instruction that is kept
kept_no_phi : (S : AggStates) (i : Instruction) → T (not (is_phi i.kind)) → T (no_phi (kept S i).out)
unfolding kept no_phi
kept_no_phi S i t = both (not (is_phi i.kind)) true t tt

-- one that is left out
tracked_no_phi : (c : Counts) (S : AggStates) (d : ValueId) (xs : List Value) → T (no_phi (tracked c S d xs).out)
unfolding tracked left no_phi
tracked_no_phi c S d xs = tt

-- a build
build_no_phi : (S : AggStates) (stay : Piece) (d : ValueId) (o : Option (List Value)) → T (no_phi stay.out) → T (no_phi (step_build S stay d o).out)
unfolding step_build
build_no_phi S stay d none t = t
build_no_phi S stay d (some xs) t = tracked_no_phi _ S d xs

-- an insert
insert_no_phi : (S : AggStates) (stay : Piece) (d : ValueId) (o : Option (List Value)) → T (no_phi stay.out) → T (no_phi (step_insert S stay d o).out)
unfolding step_insert
insert_no_phi S stay d none t = t
insert_no_phi S stay d (some xs) t = tracked_no_phi _ S d xs

-- an Assign
assign_no_phi : (S : AggStates) (stay : Piece) (d : ValueId) (o : Option (List Value)) → T (no_phi stay.out) → T (no_phi (step_assign S stay d o).out)
unfolding step_assign
assign_no_phi S stay d none t = t
assign_no_phi S stay d (some xs) t = tracked_no_phi _ S d xs

-- a part handed on or assigned
hand_no_phi : (S : AggStates) (d : ValueId) (u : TypeId) (x : Value) (o : Option (List Value)) → T (no_phi (hand_on S d u x o).out)
unfolding hand_on assigned no_phi
hand_no_phi S d u x none = tt
hand_no_phi S d u x (some xs) = tracked_no_phi _ S d xs

-- an extract
extract_no_phi : (S : AggStates) (stay : Piece) (d : ValueId) (u : TypeId) (o : Option Value) → T (no_phi stay.out)
    → T (no_phi (step_extract S stay d u o).out)
unfolding step_extract
extract_no_phi S stay d u none t = t
extract_no_phi S stay d u (some x) t = hand_no_phi S d u x (state_of S x)

-- a Load with its chain
loaded_no_phi : (τ : Types) (S : AggStates) (stay : Piece) (d : ValueId) (u : TypeId) (o : Option Value) → T (no_phi stay.out)
    → T (no_phi (step_loaded τ S stay d u o).out)
unfolding step_loaded
loaded_no_phi τ S stay d u none t = t
loaded_no_phi τ S stay d u (some x) t = hand_no_phi S d u x (on_some (aggregate_type τ u) (λ a. state_of S x))

-- a Load
load_no_phi : (τ : Types) (S : AggStates) (stay : Piece) (d : ValueId) (p : Place) (u : TypeId) (o : Option ℕ) → T (no_phi stay.out)
    → T (no_phi (step_load τ S stay d p u o).out)
unfolding step_load
load_no_phi τ S stay d p u none t = t
load_no_phi τ S stay d p u (some k) t = loaded_no_phi τ S stay d u (on_some (S p.base.0) (λ xs. chain τ S (Value.Operand p.base) p.projections)) t

-- a rebuild
rebuild_no_phi : (d : ValueId) (xs : List Value) (t : TypeId) (row : Option MirType) → T (no_phi (rebuild_at d xs t row))
unfolding rebuild_at no_phi
rebuild_no_phi d xs t none = tt
rebuild_no_phi d xs t (some Y.Felt) = tt
rebuild_no_phi d xs t (some Y.Bool) = tt
rebuild_no_phi d xs t (some Y.U32) = tt
rebuild_no_phi d xs t (some (Y.Tuple ts)) = tt
rebuild_no_phi d xs t (some (Y.Struct n fs)) = tt
rebuild_no_phi d xs t (some (Y.FixedArray q size)) = tt
rebuild_no_phi d xs t (some (Y.Pointer q)) = tt
rebuild_no_phi d xs t (some (Y.Function ps r)) = tt
rebuild_no_phi d xs t (some Y.Unit) = tt
rebuild_no_phi d xs t (some Y.Error) = tt
rebuild_no_phi d xs t (some Y.Unknown) = tt

-- one value, kept or rebuilt
one_no_phi : (τ : Types) (n : ℕ) (x : Value) (k : ℕ → Rebuilt) → ((j : ℕ) → T (no_phi (k j).before)) → (o : Option TypeId) (s : Option (List Value))
    → T (no_phi (one_value τ n x k o s).before)
unfolding one_value keep_value rebuild_value
one_no_phi τ n x k h none s = h n
one_no_phi τ n x k h (some t) none = h n
one_no_phi τ n x k h (some t) (some xs) = append_no_phi (rebuild_at (record { 0 = n }) xs t (row_of τ (some t))) (k (suc n)).before (rebuild_no_phi (record { 0 = n }) xs t (row_of τ (some t))) (h (suc n))

-- values in a list
all_no_phi : (τ : Types) (S : AggStates) (n : ℕ) (ws : List Wanted) → T (no_phi (rebuild_all τ S n ws).before)
unfolding rebuild_all no_phi
all_no_phi τ S n [] = tt
all_no_phi τ S n (x ∷ ws) = one_no_phi τ n x.value (λ j. rebuild_all τ S j ws) (λ j. all_no_phi τ S j ws) x.at (state_of S x.value)

-- a Store behind its rebuild
rebuilt_no_phi : (S : AggStates) (m : Meta) (p : Place) (u : TypeId) (r : Rebuilt) (xs : List Value) → T (no_phi r.before)
    → T (no_phi (store_rebuilt S m p u r xs).out)
unfolding store_rebuilt no_phi kept
rebuilt_no_phi S m p u r [] h = tt
rebuilt_no_phi S m p u r (x ∷ xs) h = append_no_phi r.before (record { meta = m; kind = Store p x u } ∷ []) h (one_store m p x u)
  where
    one_store : (m : Meta) (p : Place) (x : Value) (u : TypeId) → T (no_phi (record { meta = m; kind = Store p x u } ∷ []))
    one_store m p x u = tt

-- a Store that stays
stay_no_phi : (τ : Types) (S : AggStates) (n : ℕ) (i : Instruction) (p : Place) (x : Value) (u : TypeId) (o : Option (List Value))
    → T (not (is_phi i.kind)) → T (no_phi (store_kept τ S n i p x u o).out)
unfolding store_kept
stay_no_phi τ S n i p x u none t = kept_no_phi S i t
stay_no_phi τ S n i p x u (some xs) t = rebuilt_no_phi S i.meta p u (rebuild_all τ S n (record { value = x; at = some u } ∷ [])) (rebuild_all τ S n (record { value = x; at = some u } ∷ [])).values (all_no_phi τ S n (record { value = x; at = some u } ∷ []))

-- a Store
store_no_phi : (S : AggStates) (stay : Piece) (o : Option AggStates) → T (no_phi stay.out) → T (no_phi (step_store S stay o).out)
unfolding step_store left no_phi
store_no_phi S stay none t = t
store_no_phi S stay (some S') t = tt

-- a Call
call_no_phi : (S : AggStates) (i : Instruction) (ds : List ValueId) (f : ℕ) (ps rs : List TypeId) (r : Rebuilt) (us : List TypeId)
    → T (not (is_phi i.kind)) → T (no_phi r.before) → T (no_phi (step_call S i ds f ps rs r us).out)
unfolding step_call no_phi
call_no_phi S i ds f ps rs r [] t h = kept_no_phi S i t
call_no_phi S i ds f ps rs r (u ∷ us) t h = append_no_phi r.before (plain (Call ds f r.values ps rs) ∷ []) h (one_call ds f r.values ps rs)
  where
    one_call : (ds : List ValueId) (f : ℕ) (xs : List Value) (ps rs : List TypeId) → T (no_phi (plain (Call ds f xs ps rs) ∷ []))
    one_call ds f xs ps rs = tt

-- an arm that a setting turns off
guard_no_phi : (b : Bool) (stay p : Piece) → T (no_phi stay.out) → T (no_phi p.out) → T (no_phi (guarded b stay p).out)
unfolding guarded
guard_no_phi true stay p t h = h
guard_no_phi false stay p t h = t

-- what stays in edition 1
first_no_phi : (σ : Settings) (τ : Types) (S : AggStates) (n : ℕ) (i : Instruction) (k : InstructionKind) → T (not (is_phi i.kind)) → T (no_phi (stays_first σ τ S n i k).out)
unfolding stays_first
first_no_phi σ τ S n i (Assign d x t) h = kept_no_phi S i h
first_no_phi σ τ S n i (UnaryOp op d x) h = kept_no_phi S i h
first_no_phi σ τ S n i (BinaryOp op d x y) h = kept_no_phi S i h
first_no_phi σ τ S n i (Call ds f xs ps rs) h = call_no_phi S i ds f ps rs (rebuild_all τ S n (wanted_arguments τ xs ps)) (rebuild_all τ S n (wanted_arguments τ xs ps)).fresh h (all_no_phi τ S n (wanted_arguments τ xs ps))
first_no_phi σ τ S n i (Cast d x t u) h = kept_no_phi S i h
first_no_phi σ τ S n i (Load d p t) h = kept_no_phi S i h
first_no_phi σ τ S n i (Store p x t) h = guard_no_phi σ.tuples (kept S i) _ (kept_no_phi S i h) (stay_no_phi τ S n i p x t (on_some (aggregate_type τ t) (λ u. state_of S x)) h)
first_no_phi σ τ S n i (Debug m xs) h = kept_no_phi S i h
first_no_phi σ τ S n i Nop h = kept_no_phi S i h
first_no_phi σ τ S n i (Phi d t ss) h = kept_no_phi S i h
first_no_phi σ τ S n i (MakeTuple d xs) h = kept_no_phi S i h
first_no_phi σ τ S n i (ExtractTupleElement d x k t) h = kept_no_phi S i h
first_no_phi σ τ S n i (MakeStruct d fs t) h = kept_no_phi S i h
first_no_phi σ τ S n i (ExtractStructField d x f t) h = kept_no_phi S i h
first_no_phi σ τ S n i (InsertField d x f y t) h = kept_no_phi S i h
first_no_phi σ τ S n i (InsertTuple d x k y t) h = kept_no_phi S i h
first_no_phi σ τ S n i (MakeFixedArray d xs t c) h = kept_no_phi S i h
first_no_phi σ τ S n i (AssertEq x y) h = kept_no_phi S i h
first_no_phi σ τ S n i (HeapAllocCells d x) h = kept_no_phi S i h

-- deep rebuilds
deep_one_no_phi : (τ : Types) (path : Marks) (inner : Inner) (n : ℕ) (x : Value) (k : ℕ → Rebuilt)
    → ((x : Value) (j : ℕ) (ws : List Wanted) → T (no_phi (inner x j ws).before)) → ((j : ℕ) → T (no_phi (k j).before)) → (o : Option TypeId) (s : Option (List Value))
    → T (no_phi (deep_value τ path inner n x k o s).before)
unfolding deep_value keep_value whole_then
deep_one_no_phi τ path inner n x k hi h none s = h n
deep_one_no_phi τ path inner n x k hi h (some t) none = h n
deep_one_no_phi τ path inner n x k hi h (some t) (some xs) = append_no_phi _ _ (hi x n _) (append_no_phi _ _ (rebuild_no_phi _ _ t (row_of τ (some t))) (h _))

-- of values in order
deep_values_no_phi : (τ : Types) (S : AggStates) (path : Marks) (inner : Inner)
    → ((x : Value) (j : ℕ) (ws : List Wanted) → T (no_phi (inner x j ws).before)) → (n : ℕ) (ws : List Wanted) → T (no_phi (deep_values τ S path inner n ws).before)
unfolding deep_values no_phi
deep_values_no_phi τ S path inner hi n [] = tt
deep_values_no_phi τ S path inner hi n (w ∷ ws) = deep_one_no_phi τ path inner n w.value (λ m. deep_values τ S path inner m ws) hi (λ m. deep_values_no_phi τ S path inner hi m ws) w.at (state_of S w.value)

-- to any depth
deep_all_no_phi : (τ : Types) (S : AggStates) (k : ℕ) (path : Marks) (n : ℕ) (ws : List Wanted) → T (no_phi (deep_all τ S k path n ws).before)
unfolding deep_all
deep_all_no_phi τ S zero path n ws = all_no_phi τ S n ws
deep_all_no_phi τ S (suc k) path n ws = deep_values_no_phi τ S path (λ x. deep_all τ S k (begun path x)) (λ x j us. deep_all_no_phi τ S k (begun path x) j us) n ws

-- with nothing begun
deep_no_phi : (τ : Types) (S : AggStates) (n : ℕ) (ws : List Wanted) → T (no_phi (rebuild_deep τ S n ws).before)
unfolding rebuild_deep
deep_no_phi τ S n ws = deep_all_no_phi τ S _ _ n ws

-- what stays in edition 2
second_no_phi : (τ : Types) (S : AggStates) (n : ℕ) (i : Instruction) → T (not (is_phi i.kind)) → T (no_phi (stays_second τ S n i).out)
unfolding stays_second kept_behind no_phi
second_no_phi τ S n i t =
    let r = rebuild_deep τ S n (wanted_own τ (readings i.kind)) in
    append_no_phi r.before _ (deep_no_phi τ S n _) (both (not (is_phi (with_readings i.kind r.values))) true (rw (kind_with i.kind r.values) t) tt)

-- in an edition
in_no_phi : (e : Edition) (σ : Settings) (τ : Types) (S : AggStates) (n : ℕ) (i : Instruction) → T (not (is_phi i.kind)) → T (no_phi (stays_in e σ τ S n i).out)
unfolding stays_in
in_no_phi Edition.Second σ τ S n i t = second_no_phi τ S n i t
in_no_phi Edition.First σ τ S n i t = first_no_phi σ τ S n i i.kind t

-- in that of the settings
stays_no_phi : (σ : Settings) (τ : Types) (S : AggStates) (n : ℕ) (i : Instruction) → T (not (is_phi i.kind)) → T (no_phi (stays σ τ S n i).out)
unfolding stays
stays_no_phi σ τ S n i t = in_no_phi σ.edition σ τ S n i t

-- every kind
kind_no_phi : (σ : Settings) (τ : Types) (φ : ValueId → Bool) (S : AggStates) (n : ℕ) (i : Instruction) (k : InstructionKind)
    → T (not (is_phi i.kind)) → T (no_phi (step_kind σ τ φ S n i k).out)
unfolding step_kind
kind_no_phi σ τ φ S n i (Assign d x u) t = assign_no_phi S _ d (on_some (aggregate_type τ u) (λ a. state_of S x)) (stays_no_phi σ τ S n i t)
kind_no_phi σ τ φ S n i (UnaryOp op d x) t = stays_no_phi σ τ S n i t
kind_no_phi σ τ φ S n i (BinaryOp op d x y) t = stays_no_phi σ τ S n i t
kind_no_phi σ τ φ S n i (Call ds f xs ps rs) t = stays_no_phi σ τ S n i t
kind_no_phi σ τ φ S n i (Cast d x u v) t = stays_no_phi σ τ S n i t
kind_no_phi σ τ φ S n i (Load d p u) t = guard_no_phi (σ.tuples && walkable σ.edition p) _ _ (stays_no_phi σ τ S n i t) (load_no_phi τ S _ d p u (first_integer p.projections) (stays_no_phi σ τ S n i t))
kind_no_phi σ τ φ S n i (Store p x u) t = guard_no_phi (σ.tuples && walkable σ.edition p) _ _ (stays_no_phi σ τ S n i t) (store_no_phi S _ (forward_store τ S p x) (stays_no_phi σ τ S n i t))
kind_no_phi σ τ φ S n i (Debug m xs) t = stays_no_phi σ τ S n i t
kind_no_phi σ τ φ S n i Nop t = stays_no_phi σ τ S n i t
kind_no_phi σ τ φ S n i (Phi d u ss) t = stays_no_phi σ τ S n i t
kind_no_phi σ τ φ S n i (MakeTuple d xs) t = build_no_phi S _ d (folded_parts (φ d) (some xs)) (stays_no_phi σ τ S n i t)
kind_no_phi σ τ φ S n i (ExtractTupleElement d x k u) t = guard_no_phi σ.tuples _ _ (stays_no_phi σ τ S n i t) (extract_no_phi S _ d u (on_some (state_of S x) (λ xs. get_elem? xs k)) (stays_no_phi σ τ S n i t))
kind_no_phi σ τ φ S n i (MakeStruct d fs u) t = build_no_phi S _ d (folded_parts (φ d) (struct_parts τ d fs u)) (stays_no_phi σ τ S n i t)
kind_no_phi σ τ φ S n i (ExtractStructField d x f u) t = guard_no_phi σ.structs _ _ (stays_no_phi σ τ S n i t) (extract_no_phi S _ d u (on_some (extract_index τ x f) (λ k. on_some (state_of S x) (λ xs. get_elem? xs k))) (stays_no_phi σ τ S n i t))
kind_no_phi σ τ φ S n i (InsertField d x f y u) t = guard_no_phi σ.structs _ _ (stays_no_phi σ τ S n i t) (insert_no_phi S _ d (on_some (field_index (row_of τ (some u)) f) (λ k. on_some (state_of S x) (λ xs. St.replaced xs k y))) (stays_no_phi σ τ S n i t))
kind_no_phi σ τ φ S n i (InsertTuple d x k y u) t = guard_no_phi σ.tuples _ _ (stays_no_phi σ τ S n i t) (insert_no_phi S _ d (on_some (state_of S x) (λ xs. St.replaced xs k y)) (stays_no_phi σ τ S n i t))
kind_no_phi σ τ φ S n i (MakeFixedArray d xs u c) t = build_no_phi S _ d (folded_parts (φ d) (some xs)) (stays_no_phi σ τ S n i t)
kind_no_phi σ τ φ S n i (AssertEq x y) t = stays_no_phi σ τ S n i t
kind_no_phi σ τ φ S n i (HeapAllocCells d x) t = stays_no_phi σ τ S n i t

-- the terminator's rebuilds
return_no_phi : (e : Edition) (τ : Types) (S : AggStates) (n : ℕ) (xs : List Value) → T (no_phi (rebuilt_return e τ S n xs).before)
unfolding rebuilt_return
return_no_phi Edition.Second τ S n xs = deep_no_phi τ S n (wanted_own τ xs)
return_no_phi Edition.First τ S n xs = all_no_phi τ S n (wanted_returns τ xs)

-- before a terminator
finish_no_phi : (σ : Settings) (τ : Types) (S : AggStates) (n : ℕ) (t : Terminator) → T (no_phi (finish σ τ S n t).out)
unfolding finish ends returned no_phi
finish_no_phi σ τ S n (Jump b) = tt
finish_no_phi σ τ S n (If x a b) = tt
finish_no_phi σ τ S n (BranchCmp op x y a b) = tt
finish_no_phi σ τ S n (Return xs) = return_no_phi σ.edition τ S n xs
finish_no_phi σ τ S n Unreachable = tt

-- a walk puts out no phi
pub walk_no_phi : (σ : Settings) (τ : Types) (φ : ValueId → Bool) (S : AggStates) (n : ℕ) (is : List Instruction) (t : Terminator) → T (no_phi is)
    → T (no_phi (walk σ τ φ S n is t).out)
unfolding walk glue step no_phi
walk_no_phi σ τ φ S n [] t h = finish_no_phi σ τ S n t
walk_no_phi σ τ φ S n (i ∷ is) t h =
    let p = step σ τ φ S n i in
    append_no_phi p.out (walk σ τ φ p.states (n + length p.fresh) is t).out (kind_no_phi σ τ φ S n i i.kind (both_l (not (is_phi i.kind)) (no_phi is) h))
    (walk_no_phi σ τ φ p.states (n + length p.fresh) is t (both_r (not (is_phi i.kind)) (no_phi is) h))

-- ---- the phis in front, and what is behind them

-- no phi in front
front_none : (i : Instruction) (out : List Instruction) → T (no_phi (i ∷ out)) → phis_of (i ∷ out) ≡ []
unfolding phis_of no_phi
front_none i out h = cond_no (is_phi i.kind) (i ∷ phis_of out) [] (both_l (not (is_phi i.kind)) (no_phi out) h)

-- all is behind
behind_none : (i : Instruction) (out : List Instruction) → T (no_phi (i ∷ out)) → behind_phis (i ∷ out) ≡ i ∷ out
unfolding behind_phis no_phi
behind_none i out h = cond_no (is_phi i.kind) (behind_phis out) (i ∷ out) (both_l (not (is_phi i.kind)) (no_phi out) h)

-- no phis
front_out : (out : List Instruction) → T (no_phi out) → phis_of out ≡ []
unfolding phis_of
front_out [] h = refl
front_out (i ∷ out) h = front_none i out h

-- all is behind
behind_out : (out : List Instruction) → T (no_phi out) → behind_phis out ≡ out
unfolding behind_phis
behind_out [] h = refl
behind_out (i ∷ out) h = behind_none i out h

-- the phis of the rewritten block are the block's
pub front_phis : (is out : List Instruction) → T (no_phi out) → phis_of (phis_of is ++ out) ≡ phis_of is
unfolding phis_of
front_phis [] out h = front_out out h
front_phis (i ∷ is) out h =
    elim (split (is_phi i.kind)) [
      | passes t ↦ rw (cond_yes (is_phi i.kind) (i ∷ phis_of is) [] t) (cond_yes (is_phi i.kind) (i ∷ phis_of (phis_of is ++ out)) [] t ∙ ap (λ (l : List Instruction). i ∷ l) (front_phis is out h))
      | fails t ↦ rw (cond_no (is_phi i.kind) (i ∷ phis_of is) [] t) (front_out out h)
    ]

-- and behind them stands what came out
pub behind_phis_lem : (is out : List Instruction) → T (no_phi out) → behind_phis (phis_of is ++ out) ≡ out
unfolding phis_of behind_phis
behind_phis_lem [] out h = behind_out out h
behind_phis_lem (i ∷ is) out h =
    elim (split (is_phi i.kind)) [
      | passes t ↦ rw (cond_yes (is_phi i.kind) (i ∷ phis_of is) [] t) (cond_yes (is_phi i.kind) (behind_phis (phis_of is ++ out)) (i ∷ (phis_of is ++ out)) t ∙ behind_phis_lem is out h)
      | fails t ↦ rw (cond_no (is_phi i.kind) (i ∷ phis_of is) [] t) (behind_out out h)
    ]
