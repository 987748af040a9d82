-- What an instruction reads, defines and stores into: one table each, used by every scan, the shelf test and the machine.
use Rattle.std.specs.Prelude.{List, [], ◌∷◌, ◌++◌, map, Bool, not, ◌||◌, ℕ, eqb}
use Rattle.std.proofs.Math.Option.{Option, none, some}
use Rattle.mir.specs.declared.Value.{Value}
use Rattle.mir.specs.declared.ValueId.{ValueId}
use Rattle.mir.specs.declared.Projection.{Projection}
use Rattle.mir.specs.declared.Projection.TheVariants.{Index, Field, Tuple}
use Rattle.mir.specs.Syntax.{Place, Source, FieldInit, InstructionKind, Terminator}
use Rattle.mir.specs.Syntax.{Assign, UnaryOp, BinaryOp, Call, Cast, Load, Store, Debug, Nop, Phi}
use Rattle.mir.specs.Syntax.{MakeTuple, ExtractTupleElement, MakeStruct, ExtractStructField}
use Rattle.mir.specs.Syntax.{InsertField, InsertTuple, MakeFixedArray, AssertEq, HeapAllocCells}
use Rattle.mir.specs.Syntax.{Jump, If, BranchCmp, Return, Unreachable}

-- the value number that a value reads, in front of others
abbrev pub operand : Value → List ValueId → List ValueId
operand (Value.Literal l) vs = vs
operand (Value.Operand v) vs = v ∷ vs
operand Value.Error vs = vs

abbrev pub operands : List Value → List ValueId
operands [] = []
operands (x ∷ xs) = operand x (operands xs)

abbrev pub indices : List Projection → List Value
indices [] = []
indices (Index x ∷ ps) = x ∷ indices ps
indices (Field n ∷ ps) = indices ps
indices (Tuple k ∷ ps) = indices ps

-- the base first, then the Index values in place order
abbrev pub place_reads : Place → List ValueId
place_reads p = p.base ∷ operands (indices p.projections)

abbrev pub source_values : List Source → List Value
source_values ss = map (λ s. s.value) ss

abbrev pub init_values : List FieldInit → List Value
init_values fs = map (λ f. f.value) fs

-- the values an instruction reads, in the order of its bytes; a Store's base counts as read
abbrev pub reads : InstructionKind → List ValueId
reads (Assign d x t) = operand x []
reads (UnaryOp op d x) = operand x []
reads (BinaryOp op d x y) = operand x (operand y [])
reads (Call ds f xs ps rs) = operands xs
reads (Cast d x t u) = operand x []
reads (Load d p t) = place_reads p
reads (Store p x t) = place_reads p ++ operand x []
reads (Debug m xs) = operands xs
reads Nop = []
reads (Phi d t ss) = operands (source_values ss)
reads (MakeTuple d xs) = operands xs
reads (ExtractTupleElement d x k t) = operand x []
reads (MakeStruct d fs t) = operands (init_values fs)
reads (ExtractStructField d x n t) = operand x []
reads (InsertField d x n y t) = operand x (operand y [])
reads (InsertTuple d x k y t) = operand x (operand y [])
reads (MakeFixedArray d xs t c) = operands xs
reads (AssertEq x y) = operand x (operand y [])
reads (HeapAllocCells d x) = operand x []

-- the values an instruction defines
abbrev pub dests : InstructionKind → List ValueId
dests (Assign d x t) = d ∷ []
dests (UnaryOp op d x) = d ∷ []
dests (BinaryOp op d x y) = d ∷ []
dests (Call ds f xs ps rs) = ds
dests (Cast d x t u) = d ∷ []
dests (Load d p t) = d ∷ []
dests (Store p x t) = []
dests (Debug m xs) = []
dests Nop = []
dests (Phi d t ss) = d ∷ []
dests (MakeTuple d xs) = d ∷ []
dests (ExtractTupleElement d x k t) = d ∷ []
dests (MakeStruct d fs t) = d ∷ []
dests (ExtractStructField d x n t) = d ∷ []
dests (InsertField d x n y t) = d ∷ []
dests (InsertTuple d x k y t) = d ∷ []
dests (MakeFixedArray d xs t c) = d ∷ []
dests (AssertEq x y) = []
dests (HeapAllocCells d x) = d ∷ []

-- the value that a Store changes
abbrev pub store_base : InstructionKind → Option ValueId
store_base (Assign d x t) = none
store_base (UnaryOp op d x) = none
store_base (BinaryOp op d x y) = none
store_base (Call ds f xs ps rs) = none
store_base (Cast d x t u) = none
store_base (Load d p t) = none
store_base (Store p x t) = some p.base
store_base (Debug m xs) = none
store_base Nop = none
store_base (Phi d t ss) = none
store_base (MakeTuple d xs) = none
store_base (ExtractTupleElement d x k t) = none
store_base (MakeStruct d fs t) = none
store_base (ExtractStructField d x n t) = none
store_base (InsertField d x n y t) = none
store_base (InsertTuple d x k y t) = none
store_base (MakeFixedArray d xs t c) = none
store_base (AssertEq x y) = none
store_base (HeapAllocCells d x) = none

-- "u8 kind in `InstructionKind` order (0 to 18)"
abbrev pub kind_number : InstructionKind → ℕ
kind_number (Assign d x t) = 0
kind_number (UnaryOp op d x) = 1
kind_number (BinaryOp op d x y) = 2
kind_number (Call ds f xs ps rs) = 3
kind_number (Cast d x t u) = 4
kind_number (Load d p t) = 5
kind_number (Store p x t) = 6
kind_number (Debug m xs) = 7
kind_number Nop = 8
kind_number (Phi d t ss) = 9
kind_number (MakeTuple d xs) = 10
kind_number (ExtractTupleElement d x k t) = 11
kind_number (MakeStruct d fs t) = 12
kind_number (ExtractStructField d x n t) = 13
kind_number (InsertField d x n y t) = 14
kind_number (InsertTuple d x k y t) = 15
kind_number (MakeFixedArray d xs t c) = 16
kind_number (AssertEq x y) = 17
kind_number (HeapAllocCells d x) = 18

abbrev pub is_phi : InstructionKind → Bool
is_phi i = eqb (kind_number i) 9

-- whether an instruction's reads count: Debug's do only where the flag says so
abbrev pub counted : Bool → InstructionKind → Bool
counted debug i = debug || not (eqb (kind_number i) 7)

-- the values a terminator reads
abbrev pub terminator_reads : Terminator → List ValueId
terminator_reads (Jump b) = []
terminator_reads (If x a b) = operand x []
terminator_reads (BranchCmp op x y a b) = operand x (operand y [])
terminator_reads (Return xs) = operands xs
terminator_reads Unreachable = []
