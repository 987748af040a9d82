-- Kinds that are looked up: past the last there is no instruction.
use Prim.Native.Nat.{ℕ, ◌≤◌, ◌<◌}
use native.Mathlib.Omega.{arith}
use Rattle.mir.specs.Lookup.{Types}
use Rattle.mir.specs.Reads.{kind_number}
use Rattle.mir.specs.Syntax.{InstructionKind}
use Rattle.mir.specs.Syntax.{Assign, UnaryOp, BinaryOp, Call, Cast, Load, Store, Debug, Nop, Phi}
use Rattle.mir.specs.Syntax.{MakeTuple, ExtractTupleElement, MakeStruct, ExtractStructField, InsertField, InsertTuple, MakeFixedArray, AssertEq, HeapAllocCells}
use Rattle.bytes_index.specs.Table.{kind_in}
use Rattle.bytes_index.specs.declared.code.Code.{Code}
use Rattle.shelf_marks.specs.Tests.{OfSlot}

kinds_few : (i : InstructionKind) → kind_number i ≤ 18
kinds_few (Assign d v t) = omega arith
kinds_few (UnaryOp op d v) = omega arith
kinds_few (BinaryOp op d v w) = omega arith
kinds_few (Call ds f xs ps rs) = omega arith
kinds_few (Cast d v t w) = omega arith
kinds_few (Load d p t) = omega arith
kinds_few (Store p v t) = omega arith
kinds_few (Debug m xs) = omega arith
kinds_few Nop = omega arith
kinds_few (Phi d t ss) = omega arith
kinds_few (MakeTuple d xs) = omega arith
kinds_few (ExtractTupleElement d v m t) = omega arith
kinds_few (MakeStruct d fs t) = omega arith
kinds_few (ExtractStructField d v m t) = omega arith
kinds_few (InsertField d v m w t) = omega arith
kinds_few (InsertTuple d v m w t) = omega arith
kinds_few (MakeFixedArray d xs t c) = omega arith
kinds_few (AssertEq v w) = omega arith
kinds_few (HeapAllocCells d v) = omega arith

pub slot_unknown : {A : Type 0} (code : Code) (slot : ℕ) (f : Types → InstructionKind → A) (r : A) → 18 < kind_in code.facts.now slot → OfSlot code slot f r
slot_unknown code slot f r h τ i g a = absurd (omega (arith, a.kind, kinds_few i.kind))
