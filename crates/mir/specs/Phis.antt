-- The phis of a block, which stand in front, and what stands behind them.
use Rattle.std.specs.Prelude.{List, [], ◌∷◌, cond}
use Rattle.std.proofs.Math.Option.{Option, none, some}
use Rattle.mir.specs.declared.ValueId.{ValueId}
use Rattle.mir.specs.declared.TypeId.{TypeId}
use Rattle.mir.specs.Syntax.{Source, Instruction, InstructionKind}
use Rattle.mir.specs.Syntax.{Assign, UnaryOp, BinaryOp, Call, Cast, Load, Store, Debug, Nop, Phi}
use Rattle.mir.specs.Syntax.{MakeTuple, ExtractTupleElement, MakeStruct, ExtractStructField}
use Rattle.mir.specs.Syntax.{InsertField, InsertTuple, MakeFixedArray, AssertEq, HeapAllocCells}
use Rattle.mir.specs.Reads.{is_phi}

-- the phis of a block stand in front
unfoldable pub behind_phis : List Instruction → List Instruction
behind_phis [] = []
behind_phis (i ∷ is) = cond (is_phi i.kind) (behind_phis is) (i ∷ is)

unfoldable pub phis_of : List Instruction → List Instruction
phis_of [] = []
phis_of (i ∷ is) = cond (is_phi i.kind) (i ∷ phis_of is) []

-- a Phi's fields
pub record PhiOf : Type 0 where
  pub dest : ValueId
  pub type : TypeId
  pub sources : List Source

-- the fields of a Phi, none of any other kind
unfoldable pub phi_of : InstructionKind → Option PhiOf
phi_of (Assign d x t) = none
phi_of (UnaryOp op d x) = none
phi_of (BinaryOp op d x y) = none
phi_of (Call ds f xs ps rs) = none
phi_of (Cast d x t u) = none
phi_of (Load d p t) = none
phi_of (Store p x t) = none
phi_of (Debug m xs) = none
phi_of Nop = none
phi_of (Phi d t ss) = some (record { dest = d; type = t; sources = ss })
phi_of (MakeTuple d xs) = none
phi_of (ExtractTupleElement d x k t) = none
phi_of (MakeStruct d fs t) = none
phi_of (ExtractStructField d x n t) = none
phi_of (InsertField d x n y t) = none
phi_of (InsertTuple d x k y t) = none
phi_of (MakeFixedArray d xs t c) = none
phi_of (AssertEq x y) = none
phi_of (HeapAllocCells d x) = none
