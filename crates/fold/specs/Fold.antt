-- Which builds are folded: the tests that `run` makes at a build, sroa.rs 808 to 954.
use Rattle.std.specs.Prelude.{List, [], ◌∷◌, Bool, true, false, cond, not, ◌&&◌, ◌||◌, eqb}
use Rattle.mir.specs.declared.ValueId.{ValueId}
use Rattle.mir.specs.declared.Value.{Value}
use Rattle.mir.specs.Syntax.{Instruction, InstructionKind}
use Rattle.mir.specs.Syntax.{Assign, UnaryOp, BinaryOp, Call, Cast, Load, Store, Debug, Nop, Phi}
use Rattle.mir.specs.Syntax.{MakeTuple, ExtractTupleElement, MakeStruct, ExtractStructField, InsertField, InsertTuple, MakeFixedArray, AssertEq, HeapAllocCells}
use Rattle.mir.specs.Reads.{is_phi}
use Rattle.fold.specs.declared.Settings.{Settings}
use Rattle.mir.specs.Lists.{every}
use Rattle.mir.specs.Lookup.{Types, value_row, is_tuple, is_struct, is_operand, any}
use Rattle.fold.specs.Family.{Marks, has_dynamic_index}
use Rattle.fold.specs.Climb.{buildable, can_scalarize}

-- "for tuples, we scalarize even if used in calls": only the tuples that take it as a part are climbed, each with a new set
unfoldable pub tuple_parent : Settings → Types → Marks → List Instruction → ValueId → InstructionKind → Bool
tuple_parent σ τ cross is v (Assign d x t) = true
tuple_parent σ τ cross is v (UnaryOp op d x) = true
tuple_parent σ τ cross is v (BinaryOp op d x y) = true
tuple_parent σ τ cross is v (Call ds f xs ps rs) = true
tuple_parent σ τ cross is v (Cast d x t u) = true
tuple_parent σ τ cross is v (Load d p t) = true
tuple_parent σ τ cross is v (Store p x t) = true
tuple_parent σ τ cross is v (Debug n xs) = true
tuple_parent σ τ cross is v Nop = true
tuple_parent σ τ cross is v (Phi d t ss) = true
tuple_parent σ τ cross is v (MakeTuple d xs) = eqb d.0 v.0 || (not (any (is_operand v) xs) || can_scalarize σ τ cross is d)
tuple_parent σ τ cross is v (ExtractTupleElement d x k t) = true
tuple_parent σ τ cross is v (MakeStruct d fs t) = true
tuple_parent σ τ cross is v (ExtractStructField d x n t) = true
tuple_parent σ τ cross is v (InsertField d x n y t) = true
tuple_parent σ τ cross is v (InsertTuple d x k y t) = true
tuple_parent σ τ cross is v (MakeFixedArray d xs t c) = true
tuple_parent σ τ cross is v (AssertEq x y) = true
tuple_parent σ τ cross is v (HeapAllocCells d x) = true

module _ (σ : Settings) (τ : Types) (cross : Marks) (is : List Instruction) where
  -- sroa.rs 808 to 864: its own conditions, and those of each tuple that takes it as a part
  unfoldable pub folds_tuple : ValueId → List Value → Bool
  folds_tuple d xs = σ.tuples && (buildable σ τ cross (MakeTuple d xs) && every (λ i. tuple_parent σ τ cross is d i.kind) is)

  -- sroa.rs 866 to 905: the climb alone; what 887 and 898 test once more is its condition 3
  unfoldable pub folds_struct : ValueId → Bool
  folds_struct d = σ.structs && can_scalarize σ τ cross is d

  -- sroa.rs 908 to 954: "general recursive checks AND no dynamic index in the array family"; the climb tests 911 to 926 too
  unfoldable pub folds_array : ValueId → Bool
  folds_array d = σ.tuples && (can_scalarize σ τ cross is d && not (has_dynamic_index τ d is))

-- "a block with a tuple or struct phi is skipped": by the recorded type of the phi's dest
unfoldable pub aggregate_phi : Types → InstructionKind → Bool
aggregate_phi τ (Assign d x t) = false
aggregate_phi τ (UnaryOp op d x) = false
aggregate_phi τ (BinaryOp op d x y) = false
aggregate_phi τ (Call ds f xs ps rs) = false
aggregate_phi τ (Cast d x t u) = false
aggregate_phi τ (Load d p t) = false
aggregate_phi τ (Store p x t) = false
aggregate_phi τ (Debug n xs) = false
aggregate_phi τ Nop = false
aggregate_phi τ (Phi d t ss) = is_tuple (value_row τ d) || is_struct (value_row τ d)
aggregate_phi τ (MakeTuple d xs) = false
aggregate_phi τ (ExtractTupleElement d x k t) = false
aggregate_phi τ (MakeStruct d fs t) = false
aggregate_phi τ (ExtractStructField d x n t) = false
aggregate_phi τ (InsertField d x n y t) = false
aggregate_phi τ (InsertTuple d x k y t) = false
aggregate_phi τ (MakeFixedArray d xs t c) = false
aggregate_phi τ (AssertEq x y) = false
aggregate_phi τ (HeapAllocCells d x) = false

-- sroa.rs 771 to 786: "a block with a tuple or struct phi is skipped"
unfoldable pub skipped : Types → List Instruction → Bool
skipped τ is = any (λ i. aggregate_phi τ i.kind) is
