-- What the bytes of a block mean: instructions and terminators, in the Rust's order and with its names.
use Rattle.std.specs.Prelude.{ℕ, List, Bool}
use Rattle.std.proofs.Math.Option.{Option, none}
use Rattle.mir.specs.declared.Value.{Value}
use Rattle.mir.specs.declared.ValueId.{ValueId}
use Rattle.mir.specs.declared.BlockId.{BlockId}
use Rattle.mir.specs.declared.TypeId.{TypeId}
use Rattle.mir.specs.declared.NameId.{NameId}
use Rattle.mir.specs.declared.Projection.{Projection}

-- value.rs, `Place`
pub record Place : Type 0 where
  pub base : ValueId
  pub projections : List Projection

-- one of a Phi's `sources`
pub record Source : Type 0 where
  pub block : BlockId
  pub value : Value

-- one of a MakeStruct's `fields`
pub record FieldInit : Type 0 where
  pub name : NameId
  pub value : Value

pub record Span : Type 0 where
  pub start : ℕ
  pub stop : ℕ

-- instruction.rs, `MirExpressionId`
pub record ExpressionId : Type 0 where
  pub index : ℕ
  pub file : ℕ

-- instruction.rs, `Instruction`: what stands beside the kind
pub record Meta : Type 0 where
  pub span : Option Span
  pub expression : Option ExpressionId
  pub comment : Option ℕ

-- instruction.rs, `InstructionKind`, fields as declared; operations, callees, indices and messages are numbers
pub data InstructionKind : Type 0 where
  Assign : ValueId → Value → TypeId → InstructionKind
  UnaryOp : ℕ → ValueId → Value → InstructionKind
  BinaryOp : ℕ → ValueId → Value → Value → InstructionKind
  Call : List ValueId → ℕ → List Value → List TypeId → List TypeId → InstructionKind
  Cast : ValueId → Value → TypeId → TypeId → InstructionKind
  Load : ValueId → Place → TypeId → InstructionKind
  Store : Place → Value → TypeId → InstructionKind
  Debug : ℕ → List Value → InstructionKind
  Nop : InstructionKind
  Phi : ValueId → TypeId → List Source → InstructionKind
  MakeTuple : ValueId → List Value → InstructionKind
  ExtractTupleElement : ValueId → Value → ℕ → TypeId → InstructionKind
  MakeStruct : ValueId → List FieldInit → TypeId → InstructionKind
  ExtractStructField : ValueId → Value → NameId → TypeId → InstructionKind
  InsertField : ValueId → Value → NameId → Value → TypeId → InstructionKind
  InsertTuple : ValueId → Value → ℕ → Value → TypeId → InstructionKind
  MakeFixedArray : ValueId → List Value → TypeId → Bool → InstructionKind
  AssertEq : Value → Value → InstructionKind
  HeapAllocCells : ValueId → Value → InstructionKind

pub record Instruction : Type 0 where
  pub meta : Meta
  pub kind : InstructionKind

-- one without span, expression id and comment: what instruction.rs's builders make
abbrev pub plain : InstructionKind → Instruction
plain i = record { meta = record { span = none; expression = none; comment = none }; kind = i }

-- terminator.rs, `Terminator`
pub data Terminator : Type 0 where
  Jump : BlockId → Terminator
  If : Value → BlockId → BlockId → Terminator
  BranchCmp : ℕ → Value → Value → BlockId → BlockId → Terminator
  Return : List Value → Terminator
  Unreachable : Terminator

pub record Block : Type 0 where
  pub instructions : List Instruction
  pub terminator : Terminator
