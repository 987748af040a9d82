-- Laws of readings: what stands there already changes nothing.
use mathlib.Core.Path.{◌≡◌, refl}
use mathlib.Core.List.{List, [], ◌∷◌, ◌++◌}
use Rattle.mir.specs.declared.Value.{Value}
use Rattle.mir.specs.declared.Projection.{Projection}
use Rattle.mir.specs.declared.Projection.TheVariants.{Index, Field, Tuple}
use Rattle.mir.specs.Syntax.{FieldInit, InstructionKind}
use Rattle.mir.specs.Syntax.{Assign, UnaryOp, BinaryOp, Call, Cast, Load, Store, Debug, Nop, Phi}
use Rattle.mir.specs.Syntax.{MakeTuple, ExtractTupleElement, MakeStruct, ExtractStructField, InsertField, InsertTuple, MakeFixedArray, AssertEq, HeapAllocCells}
use Rattle.mir.specs.Reads.{indices, init_values}
use Rattle.rewrite.specs.Readings.{readings, first, others, base_of, with_indices, behind_indices, with_inits, with_readings}

own_indices : (ps : List Projection) (ys : List Value) → with_indices ps (indices ps ++ ys) ≡ ps
unfolding with_indices first others
own_indices [] ys = refl
own_indices (Index x ∷ ps) ys = rw (own_indices ps ys)
own_indices (Field n ∷ ps) ys = rw (own_indices ps ys)
own_indices (Tuple k ∷ ps) ys = rw (own_indices ps ys)

own_last : (ps : List Projection) → with_indices ps (indices ps) ≡ ps
unfolding with_indices first others
own_last [] = refl
own_last (Index x ∷ ps) = rw (own_last ps)
own_last (Field n ∷ ps) = rw (own_last ps)
own_last (Tuple k ∷ ps) = rw (own_last ps)

own_behind : (ps : List Projection) (ys : List Value) → behind_indices ps (indices ps ++ ys) ≡ ys
unfolding behind_indices others
own_behind [] ys = refl
own_behind (Index x ∷ ps) ys = own_behind ps ys
own_behind (Field n ∷ ps) ys = own_behind ps ys
own_behind (Tuple k ∷ ps) ys = own_behind ps ys

own_inits : (fs : List FieldInit) → with_inits fs (init_values fs) ≡ fs
unfolding with_inits first others
own_inits [] = refl
own_inits (f ∷ fs) = rw (own_inits fs)

-- an instruction with its own readings put in is itself
pub own_readings : (k : InstructionKind) → with_readings k (readings k) ≡ k
unfolding with_readings readings first others base_of
own_readings (Assign d x t) = refl
own_readings (UnaryOp op d x) = refl
own_readings (BinaryOp op d x y) = refl
own_readings (Call ds f xs ps rs) = refl
own_readings (Cast d x t u) = refl
own_readings (Load d p t) = rw (own_last p.projections)
own_readings (Store p x t) = rw (own_indices p.projections, own_behind p.projections)
own_readings (Debug m xs) = refl
own_readings Nop = refl
own_readings (Phi d t ss) = refl
own_readings (MakeTuple d xs) = refl
own_readings (ExtractTupleElement d x k t) = refl
own_readings (MakeStruct d fs t) = rw (own_inits fs)
own_readings (ExtractStructField d x n t) = refl
own_readings (InsertField d x n y t) = refl
own_readings (InsertTuple d x k y t) = refl
own_readings (MakeFixedArray d xs t c) = refl
own_readings (AssertEq x y) = refl
own_readings (HeapAllocCells d x) = refl
