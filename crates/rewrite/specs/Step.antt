-- What `run` makes of one instruction: the arms of its `match`, sroa.rs 805 to 1304, in its order.
use Rattle.std.specs.Prelude.{ℕ, List, [], Bool, true, false, not, ◌&&◌}
use Rattle.std.proofs.Math.Option.{Option, none, some}
use Rattle.std.proofs.Math.ListN.{get_elem?}
use Rattle.mir.specs.declared.ValueId.{ValueId}
use Rattle.mir.specs.declared.TypeId.{TypeId}
use Rattle.mir.specs.declared.NameId.{NameId}
use Rattle.mir.specs.declared.Literal.{Literal}
use Rattle.mir.specs.declared.Value.{Value}
use Rattle.mir.specs.declared.Projection.{Projection}
use Rattle.mir.specs.declared.Projection.TheVariants.{Index, Field, Tuple}
use Rattle.mir.specs.Syntax.{Place, Instruction, InstructionKind}
use Rattle.mir.specs.Syntax.{Assign, UnaryOp, BinaryOp, Call, Cast, Load, Store, Debug, Nop, Phi}
use Rattle.mir.specs.Syntax.{MakeTuple, ExtractTupleElement, MakeStruct, ExtractStructField, InsertField, InsertTuple, MakeFixedArray, AssertEq, HeapAllocCells}
use Rattle.fold.specs.declared.Edition.{Edition}
use Rattle.fold.specs.declared.Settings.{Settings}
use Rattle.mir.specs.Lookup.{Types, row_of, value_row, on_some, any}
use Rattle.bytes_struct.specs.FindField.{field_index}
use Rattle.mir.specs.Parts.{struct_parts}
use Rattle.rewrite.specs.State.{AggStates, state_of, replaced, chain, first_integer, forward_store}
use Rattle.rewrite.specs.Rebuild.{aggregate_type}
use Rattle.rewrite.specs.Piece.{Piece, left, tracked, assigned, one_build, one_extract, one_insert, one_assign}
use Rattle.rewrite.specs.Stays.{guarded, stays}

-- 1) a build: where it is folded, with its parts; else `stay` is what becomes of it
unfoldable pub step_build : AggStates → Piece → ValueId → Option (List Value) → Piece
step_build S stay d none = stay
step_build S stay d (some xs) = tracked one_build S d xs

unfoldable pub folded_parts : Bool → Option (List Value) → Option (List Value)
folded_parts true xs = xs
folded_parts false xs = none

-- 2) an insert: where the source is tracked and has the part
unfoldable pub step_insert : AggStates → Piece → ValueId → Option (List Value) → Piece
step_insert S stay d none = stay
step_insert S stay d (some xs) = tracked one_insert S d xs

-- 3) an extract: a tracked part hands its parts on, any other is assigned
unfoldable pub hand_on : AggStates → ValueId → TypeId → Value → Option (List Value) → Piece
hand_on S d t x none = assigned one_extract S d x t
hand_on S d t x (some xs) = tracked one_extract S d xs

-- sroa.rs 1014 to 1096: an extract whose source is tracked and has the part; else it is kept
unfoldable pub step_extract : AggStates → Piece → ValueId → TypeId → Option Value → Piece
step_extract S stay d t none = stay
step_extract S stay d t (some x) = hand_on S d t x (state_of S x)

-- the field that an extract names, of the recorded type of the value it takes apart
unfoldable pub extract_index : Types → Value → NameId → Option ℕ
extract_index τ (Value.Literal l) f = none
extract_index τ (Value.Operand v) f = field_index (value_row τ v) f
extract_index τ Value.Error f = none

-- a Load hands a tracked part on only where its type is an aggregate
unfoldable pub step_loaded : Types → AggStates → Piece → ValueId → TypeId → Option Value → Piece
step_loaded τ S stay d t none = stay
step_loaded τ S stay d t (some x) = hand_on S d t x (on_some (aggregate_type τ t) (λ u. state_of S x))

-- sroa.rs 1099 to 1145: a Load on a tracked base whose first projection is an Integer literal
unfoldable pub step_load : Types → AggStates → Piece → ValueId → Place → TypeId → Option ℕ → Piece
step_load τ S stay d p t none = stay
step_load τ S stay d p t (some k) = step_loaded τ S stay d t (on_some (S p.base.0) (λ xs. chain τ S (Value.Operand p.base) p.projections))

-- sroa.rs 1150 to 1185: a Store is forwarded into the states where that can be; else it stays
unfoldable pub step_store : AggStates → Piece → Option AggStates → Piece
step_store S stay none = stay
step_store S stay (some S') = left one_insert [] S'

-- 4) an Assign of an aggregate type: a tracked source hands its parts on
unfoldable pub step_assign : AggStates → Piece → ValueId → Option (List Value) → Piece
step_assign S stay d none = stay
step_assign S stay d (some xs) = tracked one_assign S d xs

-- "A later Boolean Index is treated as an operand", in edition 2: with one, as with an operand, no chain has an end
unfoldable pub is_boolean : Projection → Bool
is_boolean (Index (Value.Literal (Literal.Integer k))) = false
is_boolean (Index (Value.Literal (Literal.Boolean b))) = true
is_boolean (Index (Value.Literal Literal.Unit)) = false
is_boolean (Index (Value.Operand v)) = false
is_boolean (Index Value.Error) = false
is_boolean (Field n) = false
is_boolean (Tuple k) = false

unfoldable pub walkable : Edition → Place → Bool
walkable Edition.First p = true
walkable Edition.Second p = not (any is_boolean p.projections)

-- the decision which builds are folded, by their dest
module _ (σ : Settings) (τ : Types) (folds : ValueId → Bool) where
  -- the arms by kind; the second Load arm of the Rust, 1188, is never met
  unfoldable pub step_kind : AggStates → ℕ → Instruction → InstructionKind → Piece
  step_kind S n i (Assign d x t) = step_assign S (stays σ τ S n i) d (on_some (aggregate_type τ t) (λ u. state_of S x))
  step_kind S n i (UnaryOp op d x) = stays σ τ S n i
  step_kind S n i (BinaryOp op d x y) = stays σ τ S n i
  step_kind S n i (Call ds f xs ps rs) = stays σ τ S n i
  step_kind S n i (Cast d x t u) = stays σ τ S n i
  step_kind S n i (Load d p t) =
      guarded (σ.tuples && walkable σ.edition p) (stays σ τ S n i) (step_load τ S (stays σ τ S n i) d p t (first_integer p.projections))
  step_kind S n i (Store p x t) =
      guarded (σ.tuples && walkable σ.edition p) (stays σ τ S n i) (step_store S (stays σ τ S n i) (forward_store τ S p x))
  step_kind S n i (Debug m xs) = stays σ τ S n i
  step_kind S n i Nop = stays σ τ S n i
  step_kind S n i (Phi d t ss) = stays σ τ S n i
  step_kind S n i (MakeTuple d xs) = step_build S (stays σ τ S n i) d (folded_parts (folds d) (some xs))
  step_kind S n i (ExtractTupleElement d x k t) =
      guarded σ.tuples (stays σ τ S n i) (step_extract S (stays σ τ S n i) d t (on_some (state_of S x) (λ xs. get_elem? xs k)))
  step_kind S n i (MakeStruct d fs t) = step_build S (stays σ τ S n i) d (folded_parts (folds d) (struct_parts τ d fs t))
  step_kind S n i (ExtractStructField d x f t) =
      guarded σ.structs (stays σ τ S n i)
      (step_extract S (stays σ τ S n i) d t (on_some (extract_index τ x f) (λ k. on_some (state_of S x) (λ xs. get_elem? xs k))))
  step_kind S n i (InsertField d x f y t) =
      guarded σ.structs (stays σ τ S n i)
      (step_insert S (stays σ τ S n i) d (on_some (field_index (row_of τ (some t)) f) (λ k. on_some (state_of S x) (λ xs. replaced xs k y))))
  step_kind S n i (InsertTuple d x k y t) =
      guarded σ.tuples (stays σ τ S n i) (step_insert S (stays σ τ S n i) d (on_some (state_of S x) (λ xs. replaced xs k y)))
  step_kind S n i (MakeFixedArray d xs t c) = step_build S (stays σ τ S n i) d (folded_parts (folds d) (some xs))
  step_kind S n i (AssertEq x y) = stays σ τ S n i
  step_kind S n i (HeapAllocCells d x) = stays σ τ S n i

  -- one instruction, whatever its kind
  unfoldable pub step : AggStates → ℕ → Instruction → Piece
  step S n i = step_kind S n i i.kind
