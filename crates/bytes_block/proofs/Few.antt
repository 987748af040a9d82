-- An instruction and a terminator read no more values than a row takes.
use Prim.Native.Nat.{ℕ, suc, ◌≤◌, zero-le}
use mathlib.Core.Path.{◌≡◌}
use mathlib.Core.List.{List, [], ◌∷◌}
use mathlib.Core.Bool.{Bool}
use native.Mathlib.Omega.{arith}
use lib.ListN.{length, length-append, length-map}
use Rattle.bytes_wire.specs.Parse.{ok}
use Rattle.bytes_wire.specs.WellFormed.{Bytes}
use Rattle.mir.specs.declared.Value.{Value}
use Rattle.mir.specs.declared.ValueId.{ValueId}
use Rattle.mir.specs.declared.Projection.{Projection}
use Rattle.mir.specs.declared.Projection.TheVariants.{Index, Field, Tuple}
use Rattle.mir.specs.Syntax.{Place, Source, FieldInit, InstructionKind, Instruction, Terminator}
use Rattle.mir.specs.Syntax.{Assign, UnaryOp, BinaryOp, Call, Cast, Load, Store, Debug, Nop, Phi}
use Rattle.mir.specs.Syntax.{MakeTuple, ExtractTupleElement, MakeStruct, ExtractStructField, InsertField, InsertTuple, MakeFixedArray, AssertEq, HeapAllocCells}
use Rattle.mir.specs.Syntax.{Jump, If, BranchCmp, Return, Unreachable}
use Rattle.mir.specs.Reads.{operand, operands, indices, place_reads, source_values, init_values, reads, terminator_reads}
use Rattle.bytes_field.specs.Decode.{instruction_of, terminator_of}
use Rattle.bytes_field.specs.declared.Bounds.{Bounds}
use Rattle.bytes_laws.specs.WellFormed.{Wide, FitKind, FitPlace, FitTerminator}
use Rattle.bytes_laws.proofs.EachKind.{terminator}
use Rattle.bytes_laws.proofs.Instruction.{instruction}

one : (x : Value) (vs : List ValueId) → length (operand x vs) ≤ suc (length vs)
one (Value.Literal l) vs = omega arith
one (Value.Operand v) vs = omega arith
one Value.Error vs = omega arith

several : (xs : List Value) → length (operands xs) ≤ length xs
several [] = zero-le
several (x ∷ xs) = omega (arith, one x (operands xs), several xs)

of_indices : (ps : List Projection) → length (indices ps) ≤ length ps
of_indices [] = zero-le
of_indices (Index x ∷ ps) = omega (arith, of_indices ps)
of_indices (Field n ∷ ps) = omega (arith, of_indices ps)
of_indices (Tuple k ∷ ps) = omega (arith, of_indices ps)

of_sources : (ss : List Source) → length (operands (source_values ss)) ≤ length ss
of_sources ss = omega (arith, several (source_values ss), length-map ss (λ s. s.value))

of_inits : (fs : List FieldInit) → length (operands (init_values fs)) ≤ length fs
of_inits fs = omega (arith, several (init_values fs), length-map fs (λ f. f.value))

module _ (b : Bounds) (l : b.list ≤ 16) (p : b.projections ≤ 8) where
  of_place : (x : Place) → FitPlace b x → length (place_reads x) ≤ 9
  of_place x f = omega (arith, several (indices x.projections), of_indices x.projections, f.1.0)

  -- each kind
  few : (seen : List Bool) (i : InstructionKind) → FitKind b seen i → length (reads i) ≤ 16
  few seen (Assign d x t) f = omega (arith, one x [])
  few seen (UnaryOp op d x) f = omega (arith, one x [])
  few seen (BinaryOp op d x y) f = omega (arith, one x (operand y []), one y [])
  few seen (Call ds g xs ps rs) f = omega (arith, several xs, f.2.0)
  few seen (Cast d x t u) f = omega (arith, one x [])
  few seen (Load d x t) f = omega (arith, of_place x f.1)
  few seen (Store x y t) f = omega (arith, length-append (place_reads x) (operand y []), of_place x f.0, one y [])
  few seen (Debug m xs) f = omega (arith, several xs, f.1.0)
  few seen Nop f = zero-le
  few seen (Phi d t ss) f = omega (arith, of_sources ss, f.2.0)
  few seen (MakeTuple d xs) f = omega (arith, several xs, f.1.0)
  few seen (ExtractTupleElement d x k t) f = omega (arith, one x [])
  few seen (MakeStruct d fs t) f = omega (arith, of_inits fs, f.1.0)
  few seen (ExtractStructField d x n t) f = omega (arith, one x [])
  few seen (InsertField d x n y t) f = omega (arith, one x (operand y []), one y [])
  few seen (InsertTuple d x k y t) f = omega (arith, one x (operand y []), one y [])
  few seen (MakeFixedArray d xs t c) f = omega (arith, several xs, f.1.0)
  few seen (AssertEq x y) f = omega (arith, one x (operand y []), one y [])
  few seen (HeapAllocCells d x) f = omega (arith, one x [])

  few_left : (e : Terminator) → FitTerminator b e → length (terminator_reads e) ≤ 16
  few_left (Jump x) f = zero-le
  few_left (If x y z) f = omega (arith, one x [])
  few_left (BranchCmp op x y u v) f = omega (arith, one x (operand y []), one y [])
  few_left (Return xs) f = omega (arith, several xs, f.0)
  few_left Unreachable f = zero-le

  module _ (w : Wide b) (s : List ℕ) (h : Bytes s) where
    -- of an instruction that was read
    pub instruction_few : (seen : List Bool) (late : Bool) {i : Instruction} {n : ℕ} → instruction_of b seen late s ≡ ok i n → length (reads i.kind) ≤ 16
    instruction_few seen late {i} {n} e = few seen i.kind (((instruction b seen late).each s i n h e).good w).1

    -- and of a terminator
    pub terminator_few : {e : Terminator} {n : ℕ} → terminator_of b s ≡ ok e n → length (terminator_reads e) ≤ 16
    terminator_few {e} {n} g = few_left e (((terminator b).each s e n h g).good w)
