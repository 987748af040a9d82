-- Laws of the settings: "a flag is on when its number is not 0".
use Prim.Native.Nat.{ℕ, suc}
use mathlib.Core.Path.{◌≡◌, refl}
use mathlib.Core.List.{List}
use mathlib.Core.Bool.{Bool, true, false}
use mathlib.Core.Option.{Option, none, some}
use lib.Dec.{eqb-suc-zero}
use Rattle.mir.specs.declared.ValueId.{ValueId}
use Rattle.mir.specs.declared.TypeId.{TypeId}
use Rattle.mir.specs.declared.Value.{Value}
use Rattle.mir.specs.Syntax.{Place, Instruction, InstructionKind, Block}
use Rattle.mir.specs.Syntax.{Assign, UnaryOp, BinaryOp, Call, Cast, Load, Store, Debug, Nop, Phi}
use Rattle.mir.specs.Syntax.{MakeTuple, ExtractTupleElement, MakeStruct, ExtractStructField, InsertField, InsertTuple, MakeFixedArray, AssertEq, HeapAllocCells}
use Rattle.mir.specs.Routine.{Routine}
use Rattle.fold.specs.declared.Settings.{Settings}
use Rattle.mir.specs.Lookup.{Types, types_in}
use Rattle.fold.specs.Family.{Marks}
use Rattle.fold.specs.Fold.{folds_tuple, folds_struct, folds_array}
use Rattle.mir.specs.Phis.{behind_phis}
use Rattle.rewrite.specs.State.{AggStates}
use Rattle.rewrite.specs.Stays.{guarded, stays}
use Rattle.rewrite.specs.Step.{step_kind}
use Rattle.rewrite.specs.Run.{folds_build, folds_in, choice, rewritten_blocks, rewrite}
use Rattle.rewrite.specs.Outcome.{settings_of}
use Rattle.rewrite.proofs.Unchanged.{unchanged}
use Rattle.rewrite.proofs.Result.{quiet_blocks}

-- "a flag is on when its number is not 0": whatever the number
pub flags_on : (a b most : ℕ) → settings_of (suc a) (suc b) most ≡ settings_of 1 1 most
flags_on a b most = rw (eqb-suc-zero a, eqb-suc-zero b)

-- each flag alone
pub tuples_on : (a b most : ℕ) → (settings_of (suc a) b most).tuples ≡ true
tuples_on a b most = rw (eqb-suc-zero a)

-- the other, too
pub structs_on : (a b most : ℕ) → (settings_of a (suc b) most).structs ≡ true
structs_on a b most = rw (eqb-suc-zero b)

-- 0 is off
pub tuples_off : (b most : ℕ) → (settings_of 0 b most).tuples ≡ false
tuples_off b most = refl

-- of the other, too
pub structs_off : (a most : ℕ) → (settings_of a 0 most).structs ≡ false
structs_off a most = refl

-- "with enable_tuples off, arrays, Loads and Stores are left too": none of them is forwarded, whatever is tracked: it
-- stays
module _ (σ : Settings) (off : σ.tuples ≡ false) where
  -- a Load
  pub off_load : (τ : Types) (folds : ValueId → Bool) (S : AggStates) (n : ℕ) (i : Instruction) (d : ValueId) (p : Place) (t : TypeId) → step_kind σ τ folds S n i (Load d p t) ≡ stays σ τ S n i
  unfolding step_kind guarded
  off_load τ folds S n i d p t = rw off

  -- a Store
  pub off_store : (τ : Types) (folds : ValueId → Bool) (S : AggStates) (n : ℕ) (i : Instruction) (p : Place) (x : Value) (t : TypeId) → step_kind σ τ folds S n i (Store p x t) ≡ stays σ τ S n i
  unfolding step_kind guarded
  off_store τ folds S n i p x t = rw off

  -- a tuple's extract
  pub off_extract : (τ : Types) (folds : ValueId → Bool) (S : AggStates) (n : ℕ) (i : Instruction) (d : ValueId) (x : Value) (k : ℕ) (t : TypeId) → step_kind σ τ folds S n i (ExtractTupleElement d x k t) ≡ stays σ τ S n i
  unfolding step_kind guarded
  off_extract τ folds S n i d x k t = rw off

  -- a tuple's insert
  pub off_insert : (τ : Types) (folds : ValueId → Bool) (S : AggStates) (n : ℕ) (i : Instruction) (d : ValueId) (x : Value) (k : ℕ) (y : Value) (t : TypeId) → step_kind σ τ folds S n i (InsertTuple d x k y t) ≡ stays σ τ S n i
  unfolding step_kind guarded
  off_insert τ folds S n i d x k y t = rw off

  -- and no tuple or array is folded
  pub off_tuple : (τ : Types) (cross : Marks) (is : List Instruction) (d : ValueId) (xs : List Value) → folds_build σ τ cross is (some (MakeTuple d xs)) ≡ false
  unfolding folds_build folds_tuple
  off_tuple τ cross is d xs = rw off

  -- of an array, the same
  pub off_array : (τ : Types) (cross : Marks) (is : List Instruction) (d : ValueId) (xs : List Value) (t : TypeId) (c : Bool) → folds_build σ τ cross is (some (MakeFixedArray d xs t c)) ≡ false
  unfolding folds_build folds_array
  off_array τ cross is d xs t c = rw off

-- with both flags off no build is folded, and every routine is left as it is
off_build : (σ : Settings) → σ.tuples ≡ false → σ.structs ≡ false → (τ : Types) (cross : Marks) (is : List Instruction) (o : Option InstructionKind) → folds_build σ τ cross is o ≡ false
unfolding folds_build folds_tuple folds_struct folds_array
off_build σ e f τ cross is none = refl
off_build σ e f τ cross is (some (Assign d x t)) = refl
off_build σ e f τ cross is (some (UnaryOp op d x)) = refl
off_build σ e f τ cross is (some (BinaryOp op d x y)) = refl
off_build σ e f τ cross is (some (Call ds g xs ps rs)) = refl
off_build σ e f τ cross is (some (Cast d x t u)) = refl
off_build σ e f τ cross is (some (Load d p t)) = refl
off_build σ e f τ cross is (some (Store p x t)) = refl
off_build σ e f τ cross is (some (Debug m xs)) = refl
off_build σ e f τ cross is (some Nop) = refl
off_build σ e f τ cross is (some (Phi d t ss)) = refl
off_build σ e f τ cross is (some (MakeTuple d xs)) = rw e
off_build σ e f τ cross is (some (ExtractTupleElement d x k t)) = refl
off_build σ e f τ cross is (some (MakeStruct d fs t)) = rw f
off_build σ e f τ cross is (some (ExtractStructField d x n t)) = refl
off_build σ e f τ cross is (some (InsertField d x n y t)) = refl
off_build σ e f τ cross is (some (InsertTuple d x k y t)) = refl
off_build σ e f τ cross is (some (MakeFixedArray d xs t c)) = rw e
off_build σ e f τ cross is (some (AssertEq x y)) = refl
off_build σ e f τ cross is (some (HeapAllocCells d x)) = refl

-- so the Rust's choice folds nothing
off_choice : (σ : Settings) → σ.tuples ≡ false → σ.structs ≡ false → (r : Routine) (k : Block) (v : ValueId) → (choice σ r).folds k v ≡ false
unfolding choice folds_in
off_choice σ e f r k v = off_build σ e f (types_in r) _ (behind_phis k.instructions) _

-- and nothing is folded where nothing may be
pub both_off : (σ : Settings) → σ.tuples ≡ false → σ.structs ≡ false → (r : Routine) → rewrite σ r ≡ r
unfolding rewritten_blocks
both_off σ e f r = unchanged σ r (quiet_blocks σ (types_in r) (choice σ r) (off_choice σ e f r) r.next r.blocks)
