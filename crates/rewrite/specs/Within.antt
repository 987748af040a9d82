-- The mosts of document 01 that bound the numbers a rewriting takes: "16 in any list".
use Rattle.std.specs.Prelude.{ℕ, ◌≤◌, List, [], ◌∷◌, length}
use Rattle.mir.specs.Syntax.{Instruction, InstructionKind, Terminator, Jump, If, BranchCmp, Return, Unreachable, Block}
use Rattle.mir.specs.Syntax.{Assign, UnaryOp, BinaryOp, Call, Cast, Load, Store, Debug, Nop, Phi}
use Rattle.mir.specs.Syntax.{MakeTuple, ExtractTupleElement, MakeStruct, ExtractStructField, InsertField, InsertTuple, MakeFixedArray, AssertEq, HeapAllocCells}

-- how many arguments a Call has
unfoldable pub argument_count : InstructionKind → ℕ
argument_count (Assign d x t) = 0
argument_count (UnaryOp op d x) = 0
argument_count (BinaryOp op d x y) = 0
argument_count (Call ds f xs ps rs) = length xs
argument_count (Cast d x t u) = 0
argument_count (Load d p t) = 0
argument_count (Store p x t) = 0
argument_count (Debug m xs) = 0
argument_count Nop = 0
argument_count (Phi d t ss) = 0
argument_count (MakeTuple d xs) = 0
argument_count (ExtractTupleElement d x k t) = 0
argument_count (MakeStruct d fs t) = 0
argument_count (ExtractStructField d x f t) = 0
argument_count (InsertField d x f y t) = 0
argument_count (InsertTuple d x k y t) = 0
argument_count (MakeFixedArray d xs t c) = 0
argument_count (AssertEq x y) = 0
argument_count (HeapAllocCells d x) = 0

-- how many values a Return has
unfoldable pub return_count : Terminator → ℕ
return_count (Jump b) = 0
return_count (If x a b) = 0
return_count (BranchCmp op x y a b) = 0
return_count (Return xs) = length xs
return_count Unreachable = 0

-- each Call has at most that many arguments
abbrev pub CallsWithin : ℕ → List Instruction → Type 0
CallsWithin most [] = Unit {0}
CallsWithin most (i ∷ is) = (argument_count i.kind ≤ most) × CallsWithin most is

-- and each Return at most that many values
abbrev pub ListsWithin : ℕ → List Block → Type 0
ListsWithin most [] = Unit {0}
ListsWithin most (k ∷ ks) = CallsWithin most k.instructions × (return_count k.terminator ≤ most) × ListsWithin most ks
