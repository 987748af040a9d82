-- What stays leaves the tracked parts as they were.
use mathlib.Core.Path.{◌≡◌, refl}
use Prim.Native.Nat.{ℕ}
use mathlib.Core.Bool.{Bool, true, false}
use mathlib.Core.Option.{Option, none, some}
use mathlib.Core.List.{List, [], ◌∷◌}
use Rattle.mir.specs.declared.ValueId.{ValueId}
use Rattle.mir.specs.declared.TypeId.{TypeId}
use Rattle.mir.specs.declared.Value.{Value}
use Rattle.mir.specs.Syntax.{Meta, Place, Instruction, InstructionKind}
use Rattle.mir.specs.Syntax.{Assign, UnaryOp, BinaryOp, Call, Cast, Load, Store, Debug, Nop, Phi}
use Rattle.mir.specs.Syntax.{MakeTuple, ExtractTupleElement, MakeStruct, ExtractStructField, InsertField, InsertTuple, MakeFixedArray, AssertEq, HeapAllocCells}
use Rattle.fold.specs.declared.Edition.{Edition}
use Rattle.fold.specs.declared.Settings.{Settings}
use Rattle.mir.specs.Lookup.{Types, on_some}
use Rattle.rewrite.specs.State.{AggStates, state_of}
use Rattle.rewrite.specs.Rebuild.{Rebuilt, rebuild_all, aggregate_type, wanted_arguments}
use Rattle.rewrite.specs.Piece.{Piece, kept}
use Rattle.rewrite.specs.Stays.{store_rebuilt, store_kept, step_call, guarded, kept_behind, stays, stays_first, stays_in, stays_second}

-- a Store whose value is rebuilt
pub rebuilt_states : (S : AggStates) (m : Meta) (p : Place) (u : TypeId) (r : Rebuilt) (xs : List Value) → (store_rebuilt S m p u r xs).states ≡ S
unfolding store_rebuilt kept
rebuilt_states S m p u r [] = refl
rebuilt_states S m p u r (x ∷ xs) = refl

-- a Store that stays
pub store_states : (τ : Types) (S : AggStates) (n : ℕ) (i : Instruction) (p : Place) (x : Value) (u : TypeId) (o : Option (List Value)) → (store_kept τ S n i p x u o).states ≡ S
unfolding store_kept kept
store_states τ S n i p x u none = refl
store_states τ S n i p x u (some xs) = rebuilt_states S i.meta p u _ _

-- a Call
pub call_states : (S : AggStates) (i : Instruction) (ds : List ValueId) (f : ℕ) (ps rs : List TypeId) (r : Rebuilt) (us : List TypeId) → (step_call S i ds f ps rs r us).states ≡ S
unfolding step_call kept
call_states S i ds f ps rs r [] = refl
call_states S i ds f ps rs r (u ∷ us) = refl

-- an arm that a setting turns off
guard_states : (b : Bool) (S : AggStates) (stay p : Piece) → stay.states ≡ S → p.states ≡ S → (guarded b stay p).states ≡ S
unfolding guarded
guard_states true S stay p e h = h
guard_states false S stay p e h = e

-- what stays in edition 1
first_states : (σ : Settings) (τ : Types) (S : AggStates) (n : ℕ) (i : Instruction) (k : InstructionKind) → (stays_first σ τ S n i k).states ≡ S
unfolding stays_first kept
first_states σ τ S n i (Assign d x t) = refl
first_states σ τ S n i (UnaryOp op d x) = refl
first_states σ τ S n i (BinaryOp op d x y) = refl
first_states σ τ S n i (Call ds f xs ps rs) = call_states S i ds f ps rs (rebuild_all τ S n (wanted_arguments τ xs ps)) (rebuild_all τ S n (wanted_arguments τ xs ps)).fresh
first_states σ τ S n i (Cast d x t u) = refl
first_states σ τ S n i (Load d p t) = refl
first_states σ τ S n i (Store p x t) = guard_states σ.tuples S (kept S i) _ refl (store_states τ S n i p x t (on_some (aggregate_type τ t) (λ u. state_of S x)))
first_states σ τ S n i (Debug m xs) = refl
first_states σ τ S n i Nop = refl
first_states σ τ S n i (Phi d t ss) = refl
first_states σ τ S n i (MakeTuple d xs) = refl
first_states σ τ S n i (ExtractTupleElement d x k t) = refl
first_states σ τ S n i (MakeStruct d fs t) = refl
first_states σ τ S n i (ExtractStructField d x f t) = refl
first_states σ τ S n i (InsertField d x f y t) = refl
first_states σ τ S n i (InsertTuple d x k y t) = refl
first_states σ τ S n i (MakeFixedArray d xs t c) = refl
first_states σ τ S n i (AssertEq x y) = refl
first_states σ τ S n i (HeapAllocCells d x) = refl

-- in an edition
in_states : (e : Edition) (σ : Settings) (τ : Types) (S : AggStates) (n : ℕ) (i : Instruction) → (stays_in e σ τ S n i).states ≡ S
unfolding stays_in stays_second kept_behind
in_states Edition.Second σ τ S n i = refl
in_states Edition.First σ τ S n i = first_states σ τ S n i i.kind

-- in that of the settings
pub stays_states : (σ : Settings) (τ : Types) (S : AggStates) (n : ℕ) (i : Instruction) → (stays σ τ S n i).states ≡ S
unfolding stays
stays_states σ τ S n i = in_states σ.edition σ τ S n i
