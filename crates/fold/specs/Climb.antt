-- sroa.rs 195, `can_scalarize_aggregate`: a recursion over the builds that take a value as a part, with one visited set.
use Rattle.std.specs.Prelude.{ℕ, zero, suc, List, [], ◌∷◌, Bool, true, false, cond, not, ◌&&◌, ◌||◌, length, replicate, eqb}
use Rattle.std.proofs.Math.Option.{Option, none, some}
use Rattle.mir.specs.declared.ValueId.{ValueId}
use Rattle.mir.specs.declared.NameId.{NameId}
use Rattle.mir.specs.declared.TypeId.{TypeId}
use Rattle.mir.specs.declared.Value.{Value}
use Rattle.mir.specs.MirType.{StructField, MirType}
use Rattle.mir.specs.declared.Projection.{Projection}
use Rattle.mir.specs.declared.Projection.TheVariants.{Index, Field, Tuple}
use Rattle.mir.specs.Syntax.{Place, FieldInit, Instruction, InstructionKind}
use Rattle.mir.specs.Syntax.{Assign, UnaryOp, BinaryOp, Call, Cast, Load, Store, Debug, Nop, Phi}
use Rattle.mir.specs.Syntax.{MakeTuple, ExtractTupleElement, MakeStruct, ExtractStructField, InsertField, InsertTuple, MakeFixedArray, AssertEq, HeapAllocCells}
use Rattle.mir.specs.Reads.{init_values}
use Rattle.fold.specs.declared.Settings.{Settings}
use Rattle.mir.specs.Lookup.{Types, row_of, value_row, is_tuple, is_struct, is_array, struct_fields_of, is_operand, is_integer, any, is_some}
use Rattle.mir.specs.Parts.{struct_parts}
use Rattle.fold.specs.Scalarizable.{is_scalarizable}
use Rattle.fold.specs.Family.{Marks, marked, mark, build_dest}

module _ (σ : Settings) (τ : Types) (cross : Marks) where
  -- sroa.rs 220 to 272, conditions 1 to 3 of a build: its type is scalarizable, it is not used across blocks, it has a state
  unfoldable pub buildable : InstructionKind → Bool
  buildable (Assign d x t) = false
  buildable (UnaryOp op d x) = false
  buildable (BinaryOp op d x y) = false
  buildable (Call ds f xs ps rs) = false
  buildable (Cast d x t u) = false
  buildable (Load d p t) = false
  buildable (Store p x t) = false
  buildable (Debug n xs) = false
  buildable Nop = false
  buildable (Phi d t ss) = false
  buildable (MakeTuple d xs) = is_tuple (value_row τ d) && (is_scalarizable σ (value_row τ d) && not (marked cross d))
  buildable (ExtractTupleElement d x k t) = false
  buildable (MakeStruct d fs t) = is_scalarizable σ (row_of τ (some t)) && (not (marked cross d) && is_some (struct_parts τ d fs t))
  buildable (ExtractStructField d x n t) = false
  buildable (InsertField d x n y t) = false
  buildable (InsertTuple d x k y t) = false
  buildable (MakeFixedArray d xs t c) = is_array (value_row τ d) && (is_scalarizable σ (value_row τ d) && not (marked cross d))
  buildable (AssertEq x y) = false
  buildable (HeapAllocCells d x) = false

  -- the build of a value: the first whose dest it is
  unfoldable pub is_build_of : ValueId → Option ValueId → Bool
  is_build_of v none = false
  is_build_of v (some d) = eqb d.0 v.0

  unfoldable pub build_of : ValueId → List Instruction → Option InstructionKind
  build_of v [] = none
  build_of v (i ∷ is) = cond (is_build_of v (build_dest i.kind)) (some i.kind) (build_of v is)

  unfoldable pub buildable_of : Option InstructionKind → Bool
  buildable_of none = false
  buildable_of (some i) = buildable i

  -- the parts of a build, as they are given
  unfoldable pub given_parts : InstructionKind → List Value
  given_parts (Assign d x t) = []
  given_parts (UnaryOp op d x) = []
  given_parts (BinaryOp op d x y) = []
  given_parts (Call ds f xs ps rs) = []
  given_parts (Cast d x t u) = []
  given_parts (Load d p t) = []
  given_parts (Store p x t) = []
  given_parts (Debug n xs) = []
  given_parts Nop = []
  given_parts (Phi d t ss) = []
  given_parts (MakeTuple d xs) = xs
  given_parts (ExtractTupleElement d x k t) = []
  given_parts (MakeStruct d fs t) = init_values fs
  given_parts (ExtractStructField d x n t) = []
  given_parts (InsertField d x n y t) = []
  given_parts (InsertTuple d x k y t) = []
  given_parts (MakeFixedArray d xs t c) = xs
  given_parts (AssertEq x y) = []
  given_parts (HeapAllocCells d x) = []

  -- a first projection that is an Integer literal, or none at all
  unfoldable pub constant_first : List Projection → Bool
  constant_first [] = true
  constant_first (Index x ∷ ps) = is_integer x
  constant_first (Field n ∷ ps) = false
  constant_first (Tuple k ∷ ps) = false

  unfoldable pub on_base : ValueId → Place → Bool
  on_base v p = not (eqb p.base.0 v.0) || constant_first p.projections

  -- a climb answers none where the value cannot be taken apart, else the values visited
  abbrev Climb : Type 0
  Climb = ValueId → Marks → Option Marks

  unfoldable pub onward : (Marks → Option Marks) → Option Marks → Option Marks
  onward f none = none
  onward f (some m) = f m

  -- for each part that is the value: an array may not stand in a build, and the parent must be climbable
  unfoldable pub climb_parts : Climb → ValueId → ValueId → List Value → Marks → Option Marks
  climb_parts up v parent [] m = some m
  climb_parts up v parent (x ∷ xs) m =
      onward (climb_parts up v parent xs)
      (cond (is_operand v x) (cond (is_array (value_row τ v)) none (up parent m)) (some m))

  -- "Skip self-reference": a build is not its own parent
  unfoldable pub climb_build : Climb → ValueId → ValueId → List Value → Marks → Option Marks
  climb_build up v parent xs m = cond (eqb parent.0 v.0) (some m) (climb_parts up v parent xs m)

  -- sroa.rs 275 to 401, condition 4 of one instruction: no Call takes the value, its parents are climbed, Load and Store as above
  unfoldable pub climb_one : Climb → ValueId → InstructionKind → Marks → Option Marks
  climb_one up v (Assign d x t) m = some m
  climb_one up v (UnaryOp op d x) m = some m
  climb_one up v (BinaryOp op d x y) m = some m
  climb_one up v (Call ds f xs ps rs) m = cond (any (is_operand v) xs) none (some m)
  climb_one up v (Cast d x t u) m = some m
  climb_one up v (Load d p t) m = cond (on_base v p) (some m) none
  climb_one up v (Store p x t) m = cond (on_base v p) (some m) none
  climb_one up v (Debug n xs) m = some m
  climb_one up v Nop m = some m
  climb_one up v (Phi d t ss) m = some m
  climb_one up v (MakeTuple d xs) m = climb_build up v d xs m
  climb_one up v (ExtractTupleElement d x k t) m = some m
  climb_one up v (MakeStruct d fs t) m = climb_build up v d (init_values fs) m
  climb_one up v (ExtractStructField d x n t) m = some m
  climb_one up v (InsertField d x n y t) m = some m
  climb_one up v (InsertTuple d x k y t) m = some m
  climb_one up v (MakeFixedArray d xs t c) m = climb_build up v d xs m
  climb_one up v (AssertEq x y) m = some m
  climb_one up v (HeapAllocCells d x) m = some m

  -- condition 4 of each instruction in turn, with one visited set
  unfoldable pub climb_all : Climb → ValueId → List Instruction → Marks → Option Marks
  climb_all up v [] m = some m
  climb_all up v (i ∷ is) m = onward (climb_all up v is) (climb_one up v i.kind m)

  -- the recursion, as deep as there are values to visit
  unfoldable pub climb : ℕ → List Instruction → ValueId → Marks → Option Marks
  climb zero is v m = none
  climb (suc k) is v m =
      cond (marked m v) none
      (cond (buildable_of (build_of v is)) (climb_all (climb k is) v is (mark m v)) none)

  -- `can_scalarize_aggregate` of a value, with nothing visited before
  unfoldable pub can_scalarize : List Instruction → ValueId → Bool
  can_scalarize is v = is_some (climb (suc (length τ.recorded)) is v (replicate (length τ.recorded) false))
