-- Edition 2: the values that a kept instruction reads, "readings left to right", and the instruction with others put in.
use Rattle.std.specs.Prelude.{List, [], ◌∷◌, ◌++◌}
use Rattle.mir.specs.declared.ValueId.{ValueId}
use Rattle.mir.specs.declared.Value.{Value}
use Rattle.mir.specs.declared.Projection.{Projection}
use Rattle.mir.specs.declared.Projection.TheVariants.{Index, Field, Tuple}
use Rattle.mir.specs.Syntax.{FieldInit, InstructionKind}
use Rattle.mir.specs.Syntax.{Assign, UnaryOp, BinaryOp, Call, Cast, Load, Store, Debug, Nop, Phi}
use Rattle.mir.specs.Syntax.{MakeTuple, ExtractTupleElement, MakeStruct, ExtractStructField, InsertField, InsertTuple, MakeFixedArray, AssertEq, HeapAllocCells}
use Rattle.mir.specs.Reads.{indices, init_values}

-- the values that are rebuilt where they are tracked, in the order of the bytes: a Load's base first, "not .. the base of a kept
-- Store". Phis stand in front of all that is tracked
unfoldable pub readings : InstructionKind → List Value
readings (Assign d x t) = x ∷ []
readings (UnaryOp op d x) = x ∷ []
readings (BinaryOp op d x y) = x ∷ y ∷ []
readings (Call ds f xs ps rs) = xs
readings (Cast d x t u) = x ∷ []
readings (Load d p t) = Value.Operand p.base ∷ indices p.projections
readings (Store p x t) = indices p.projections ++ (x ∷ [])
readings (Debug m xs) = xs
readings Nop = []
readings (Phi d t ss) = []
readings (MakeTuple d xs) = xs
readings (ExtractTupleElement d x k t) = x ∷ []
readings (MakeStruct d fs t) = init_values fs
readings (ExtractStructField d x n t) = x ∷ []
readings (InsertField d x n y t) = x ∷ y ∷ []
readings (InsertTuple d x k y t) = x ∷ y ∷ []
readings (MakeFixedArray d xs t c) = xs
readings (AssertEq x y) = x ∷ y ∷ []
readings (HeapAllocCells d x) = x ∷ []

-- the first of the values, or the old one where there is none
unfoldable pub first : Value → List Value → Value
first x [] = x
first x (v ∷ vs) = v

-- all but the first
unfoldable pub others : List Value → List Value
others [] = []
others (v ∷ vs) = vs

-- a base is an operand
unfoldable pub base_of : ValueId → Value → ValueId
base_of b (Value.Literal l) = b
base_of b (Value.Operand v) = v
base_of b Value.Error = b

-- the Index values of a place in order
unfoldable pub with_indices : List Projection → List Value → List Projection
with_indices [] vs = []
with_indices (Index x ∷ ps) vs = Index (first x vs) ∷ with_indices ps (others vs)
with_indices (Field n ∷ ps) vs = Field n ∷ with_indices ps vs
with_indices (Tuple k ∷ ps) vs = Tuple k ∷ with_indices ps vs

-- and the values behind them
unfoldable pub behind_indices : List Projection → List Value → List Value
behind_indices [] vs = vs
behind_indices (Index x ∷ ps) vs = behind_indices ps (others vs)
behind_indices (Field n ∷ ps) vs = behind_indices ps vs
behind_indices (Tuple k ∷ ps) vs = behind_indices ps vs

-- the inits of a struct, their names kept
unfoldable pub with_inits : List FieldInit → List Value → List FieldInit
with_inits [] vs = []
with_inits (f ∷ fs) vs = record { name = f.name; value = first f.value vs } ∷ with_inits fs (others vs)

-- the instruction with other values in the places of its readings
unfoldable pub with_readings : InstructionKind → List Value → InstructionKind
with_readings (Assign d x t) vs = Assign d (first x vs) t
with_readings (UnaryOp op d x) vs = UnaryOp op d (first x vs)
with_readings (BinaryOp op d x y) vs = BinaryOp op d (first x vs) (first y (others vs))
with_readings (Call ds f xs ps rs) vs = Call ds f vs ps rs
with_readings (Cast d x t u) vs = Cast d (first x vs) t u
with_readings (Load d p t) vs =
    Load d (record { base = base_of p.base (first (Value.Operand p.base) vs); projections = with_indices p.projections (others vs) }) t
with_readings (Store p x t) vs = Store (record { base = p.base; projections = with_indices p.projections vs }) (first x (behind_indices p.projections vs)) t
with_readings (Debug m xs) vs = Debug m vs
with_readings Nop vs = Nop
with_readings (Phi d t ss) vs = Phi d t ss
with_readings (MakeTuple d xs) vs = MakeTuple d vs
with_readings (ExtractTupleElement d x k t) vs = ExtractTupleElement d (first x vs) k t
with_readings (MakeStruct d fs t) vs = MakeStruct d (with_inits fs vs) t
with_readings (ExtractStructField d x n t) vs = ExtractStructField d (first x vs) n t
with_readings (InsertField d x n y t) vs = InsertField d (first x vs) n (first y (others vs)) t
with_readings (InsertTuple d x k y t) vs = InsertTuple d (first x vs) k (first y (others vs)) t
with_readings (MakeFixedArray d xs t c) vs = MakeFixedArray d vs t c
with_readings (AssertEq x y) vs = AssertEq (first x vs) (first y (others vs))
with_readings (HeapAllocCells d x) vs = HeapAllocCells d (first x vs)
