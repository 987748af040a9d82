-- What instructions read, define and take as parts: shelf reasons 2 to 5, as tests that pass.
use Rattle.std.specs.Prelude.{ℕ, List, [], ◌∷◌, ◌++◌, true, false, cond, not, ◌&&◌}
use Rattle.std.proofs.Math.Option.{Option, none, some}
use Rattle.std.proofs.Math.Bool as B
use Rattle.mir.specs.declared.ValueId.{ValueId}
use Rattle.mir.specs.declared.Projection.{Projection}
use Rattle.mir.specs.Syntax.{Instruction, InstructionKind, Terminator, Block, Assign, UnaryOp, BinaryOp, Call, Cast, Load, Store, Debug, Nop, Phi}
use Rattle.mir.specs.Syntax.{MakeTuple, ExtractTupleElement, MakeStruct, ExtractStructField, InsertField, InsertTuple, MakeFixedArray, AssertEq, HeapAllocCells}
use Rattle.mir.specs.Reads.{operand, operands, init_values, reads, dests, store_base, counted, terminator_reads}
use Rattle.mir.specs.Lookup.{Types, value_row, is_aggregate}
use Rattle.mir.specs.Phis.{behind_phis}
use Rattle.shelf.specs.Lists.{every, among}

-- the flag that a call answers by: Debug's "values, Error too, count like any other instruction's" (document 02)
abbrev pub with_debug : B.Bool
with_debug = true

-- the values that an instruction reads, Debug's only under the flag
abbrev pub counted_reads : B.Bool → InstructionKind → List ValueId
counted_reads debug i = cond (counted debug i) (reads i) []

-- the values that instructions define
unfoldable pub defined_in : List Instruction → List ValueId
defined_in [] = []
defined_in (i ∷ is) = dests i.kind ++ defined_in is

-- "A block reads a value that it defines there or later" (reason 2)
unfoldable pub ordered : B.Bool → List Instruction → B.Bool
ordered debug [] = true
ordered debug (i ∷ is) = every (λ v. not (among v.0 (defined_in (i ∷ is)))) (counted_reads debug i.kind) && ordered debug is

-- "a build's part, an insert's new value or a Store's value"
abbrev pub parts_taken : InstructionKind → List ValueId
parts_taken (Assign d x t) = []
parts_taken (UnaryOp op d x) = []
parts_taken (BinaryOp op d x y) = []
parts_taken (Call ds f xs ps rs) = []
parts_taken (Cast d x t u) = []
parts_taken (Load d p t) = []
parts_taken (Store p x t) = operand x []
parts_taken (Debug m xs) = []
parts_taken Nop = []
parts_taken (Phi d t ss) = []
parts_taken (MakeTuple d xs) = operands xs
parts_taken (ExtractTupleElement d x k t) = []
parts_taken (MakeStruct d fs t) = operands (init_values fs)
parts_taken (ExtractStructField d x n t) = []
parts_taken (InsertField d x n y t) = operand y []
parts_taken (InsertTuple d x k y t) = operand y []
parts_taken (MakeFixedArray d xs t c) = operands xs
parts_taken (AssertEq x y) = []
parts_taken (HeapAllocCells d x) = []

-- "An aggregate that is a Store's base"
unfoldable pub aggregate_base : Types → Option ValueId → List ValueId
aggregate_base τ none = []
aggregate_base τ (some b) = cond (is_aggregate (value_row τ b)) (b ∷ []) []

-- the aggregates that are a Store's base, in a block
unfoldable pub bases_in : Types → List Instruction → List ValueId
bases_in τ [] = []
bases_in τ (i ∷ is) = aggregate_base τ (store_base i.kind) ++ bases_in τ is

-- and in a routine
unfoldable pub bases : Types → List Block → List ValueId
bases τ [] = []
bases τ (k ∷ ks) = bases_in τ (behind_phis k.instructions) ++ bases τ ks

-- ".. is also a build's part, an insert's new value or a Store's value" (reason 3)
unfoldable pub apart : (ℕ → B.Bool) → List Instruction → B.Bool
apart base [] = true
apart base (i ∷ is) = every (λ v. not (base v.0)) (parts_taken i.kind) && apart base is

-- "A Store of two or more projections has a dropped base" (reason 4)
unfoldable pub is_deep : List Projection → B.Bool
is_deep [] = false
is_deep (p ∷ []) = false
is_deep (p ∷ q ∷ ps) = true

-- no Store of two or more projections on a dropped base
unfoldable pub shallow : (ℕ → B.Bool) → InstructionKind → B.Bool
shallow dropped (Assign d x t) = true
shallow dropped (UnaryOp op d x) = true
shallow dropped (BinaryOp op d x y) = true
shallow dropped (Call ds f xs ps rs) = true
shallow dropped (Cast d x t u) = true
shallow dropped (Load d p t) = true
shallow dropped (Store p x t) = not (is_deep p.projections && dropped p.base.0)
shallow dropped (Debug m xs) = true
shallow dropped Nop = true
shallow dropped (Phi d t ss) = true
shallow dropped (MakeTuple d xs) = true
shallow dropped (ExtractTupleElement d x k t) = true
shallow dropped (MakeStruct d fs t) = true
shallow dropped (ExtractStructField d x n t) = true
shallow dropped (InsertField d x n y t) = true
shallow dropped (InsertTuple d x k y t) = true
shallow dropped (MakeFixedArray d xs t c) = true
shallow dropped (AssertEq x y) = true
shallow dropped (HeapAllocCells d x) = true

-- "The output reads a dropped value" (reason 5)
unfoldable pub clean : B.Bool → (ℕ → B.Bool) → List Instruction → B.Bool
clean debug dropped [] = true
clean debug dropped (i ∷ is) = every (λ v. not (dropped v.0)) (counted_reads debug i.kind) && clean debug dropped is

-- the same of a terminator
unfoldable pub clean_terminator : (ℕ → B.Bool) → Terminator → B.Bool
clean_terminator dropped t = every (λ v. not (dropped v.0)) (terminator_reads t)
