-- Kinds and their numbers.
use Rattle.std.proofs.Common.{◌<◌, lit<}
use Rattle.mir.specs.declared.kind.Kind.{Kind}
use Rattle.mir.specs.declared.terminator.TerminatorKind.{TerminatorKind}
use Rattle.mir.specs.Kind.{number_of_kind}
use Rattle.mir.specs.TerminatorKind.{number_of_terminator_kind}

-- a kind is one of the 19
pub kind_below : (k : Kind) → number_of_kind k < 19
kind_below Kind.Assign = lit< tt
kind_below Kind.UnaryOp = lit< tt
kind_below Kind.BinaryOp = lit< tt
kind_below Kind.Call = lit< tt
kind_below Kind.Cast = lit< tt
kind_below Kind.Load = lit< tt
kind_below Kind.Store = lit< tt
kind_below Kind.Debug = lit< tt
kind_below Kind.Nop = lit< tt
kind_below Kind.Phi = lit< tt
kind_below Kind.MakeTuple = lit< tt
kind_below Kind.ExtractTupleElement = lit< tt
kind_below Kind.MakeStruct = lit< tt
kind_below Kind.ExtractStructField = lit< tt
kind_below Kind.InsertField = lit< tt
kind_below Kind.InsertTuple = lit< tt
kind_below Kind.MakeFixedArray = lit< tt
kind_below Kind.AssertEq = lit< tt
kind_below Kind.HeapAllocCells = lit< tt

-- and a terminator's one of the five
pub terminator_kind_below : (k : TerminatorKind) → number_of_terminator_kind k < 5
terminator_kind_below TerminatorKind.Jump = lit< tt
terminator_kind_below TerminatorKind.If = lit< tt
terminator_kind_below TerminatorKind.BranchCmp = lit< tt
terminator_kind_below TerminatorKind.Return = lit< tt
terminator_kind_below TerminatorKind.Unreachable = lit< tt
