-- The mosts of a decoded routine, as the bound of the fresh numbers needs them.
use Prim.Native.Nat.{ℕ, ◌+◌, ◌≤◌, zero-le}
use mathlib.Core.List.{List, [], ◌∷◌}
use mathlib.Core.Bool.{Bool, false, not, ◌||◌}
use native.Mathlib.Omega.{arith}
use lib.ListN.{length, length-append}
use Rattle.mir.specs.declared.ValueId.{ValueId}
use Rattle.mir.specs.declared.Value.{Value}
use Rattle.mir.specs.Syntax.{Instruction, InstructionKind, Terminator, Jump, If, BranchCmp, Return, Unreachable, Block}
use Rattle.mir.specs.Syntax.{Assign, UnaryOp, BinaryOp, Call, Cast, Load, Store, Debug, Nop, Phi}
use Rattle.mir.specs.Syntax.{MakeTuple, ExtractTupleElement, MakeStruct, ExtractStructField, InsertField, InsertTuple, MakeFixedArray, AssertEq, HeapAllocCells}
use Rattle.mir.specs.Reads.{dests, is_phi}
use Rattle.bytes_field.specs.declared.Bounds.{Bounds}
use Rattle.bytes_laws.specs.WellFormed.{FitKind, FitTerminator}
use Rattle.bytes_block.specs.Decode.{marks, block_marks}
use Rattle.bytes_block.specs.declared.Mosts.{Mosts}
use Rattle.bytes_block.specs.WellFormed.{FitInstructions}
use Rattle.mir.specs.Routine.{Routine}
use Rattle.bytes_laws_whole.specs.WellFormed.{FitBlocks, bounds, unmarked, WellFormed}
use Rattle.rewrite.specs.Sum.{instruction_count}
use Rattle.rewrite.specs.Within.{argument_count, return_count, CallsWithin, ListsWithin}
use Rattle.mir.specs.Lists.{Each}
use Rattle.rewrite.specs.Fault.{last_number}
use Rattle.rewrite.specs.Lowers.{Rebuilds, Lowers}
use Rattle.rewrite.proofs.Deep.{builds_count}
use Rattle.rewrite.proofs.Limits.{Short}

call_most_lem : (b : Bounds) (seen : List Bool) (i : InstructionKind) → FitKind b seen i → argument_count i ≤ b.list
unfolding argument_count
call_most_lem b seen (Assign d x t) h = zero-le
call_most_lem b seen (UnaryOp op d x) h = zero-le
call_most_lem b seen (BinaryOp op d x y) h = zero-le
call_most_lem b seen (Call ds f xs ps rs) h = h.2.0
call_most_lem b seen (Cast d x t u) h = zero-le
call_most_lem b seen (Load d p t) h = zero-le
call_most_lem b seen (Store p x t) h = zero-le
call_most_lem b seen (Debug m xs) h = zero-le
call_most_lem b seen Nop h = zero-le
call_most_lem b seen (Phi d t ss) h = zero-le
call_most_lem b seen (MakeTuple d xs) h = zero-le
call_most_lem b seen (ExtractTupleElement d x k t) h = zero-le
call_most_lem b seen (MakeStruct d fs t) h = zero-le
call_most_lem b seen (ExtractStructField d x n t) h = zero-le
call_most_lem b seen (InsertField d x n y t) h = zero-le
call_most_lem b seen (InsertTuple d x k y t) h = zero-le
call_most_lem b seen (MakeFixedArray d xs t c) h = zero-le
call_most_lem b seen (AssertEq x y) h = zero-le
call_most_lem b seen (HeapAllocCells d x) h = zero-le

return_most : (b : Bounds) (t : Terminator) → FitTerminator b t → return_count t ≤ b.list
unfolding return_count
return_most b (Jump p) h = zero-le
return_most b (If x p q) h = zero-le
return_most b (BranchCmp op x y p q) h = zero-le
return_most b (Return xs) h = h.0
return_most b Unreachable h = zero-le

calls_within : (b : Bounds) (seen : List Bool) (late : Bool) (is : List Instruction) → FitInstructions b seen late is → CallsWithin b.list is
calls_within b seen late [] h = tt
calls_within b seen late (i ∷ is) h = (call_most_lem b seen i.kind h.0.1, calls_within b (marks seen (dests i.kind)) (late || not (is_phi i.kind)) is h.1)

blocks_within : (m : Mosts) (b : Bounds) (total : ℕ) (seen : List Bool) (ks : List Block) → FitBlocks m b total seen ks → ListsWithin b.list ks
blocks_within m b total seen [] h = tt
blocks_within m b total seen (k ∷ ks) h =
    (calls_within b seen false k.instructions h.0.instructions, return_most b k.terminator h.0.terminator, blocks_within m b (total + length k.instructions) (block_marks seen k.instructions) ks h.1)

-- "16 in any list"
pub lists_within : (m : Mosts) (r : Routine) → WellFormed m r → ListsWithin m.list r.blocks
lists_within m r w = blocks_within m (bounds m r) 0 (marks (unmarked r) r.parameters) r.blocks w.blocks

blocks_short : (m : Mosts) (b : Bounds) (total : ℕ) (seen : List Bool) (ks : List Block) → m.block ≤ last_number → FitBlocks m b total seen ks → Each Short ks
blocks_short m b total seen [] l h = tt
blocks_short m b total seen (k ∷ ks) l h = (omega (arith, h.0.own, l), blocks_short m b (total + length k.instructions) (block_marks seen k.instructions) ks l h.1)

-- "128 in a block" is less than two bytes count
pub each_short : (m : Mosts) (r : Routine) → m.block ≤ last_number → WellFormed m r → Each Short r.blocks
each_short m r l w = blocks_short m (bounds m r) 0 (marks (unmarked r) r.parameters) r.blocks l w.blocks

count_most : (m : Mosts) (b : Bounds) (total : ℕ) (seen : List Bool) (ks : List Block) → total ≤ m.all → FitBlocks m b total seen ks → total + instruction_count ks ≤ m.all
unfolding instruction_count
count_most m b total seen [] l h = omega (arith, l)
count_most m b total seen (k ∷ ks) l h = omega (arith, count_most m b (total + length k.instructions) (block_marks seen k.instructions) ks h.0.all h.1)

-- "256 in all"
pub all_most : (m : Mosts) (r : Routine) → WellFormed m r → instruction_count r.blocks ≤ m.all
all_most m r w = omega (arith, count_most m (bounds m r) 0 (marks (unmarked r) r.parameters) r.blocks zero-le w.blocks)

-- each instruction of an output is an input's, or has a fresh number of its own
rebuilds_count : {x : Bool} {n m : ℕ} {xs ys : List Value} {bs : List Instruction} → Rebuilds x n xs ys bs m → n + length bs ≤ m
rebuilds_count Rebuilds.none = omega arith
rebuilds_count (Rebuilds.same r) = rebuilds_count r
rebuilds_count (Rebuilds.anew i r) = omega (arith, rebuilds_count r)
rebuilds_count (Rebuilds.bare r) = omega (arith, rebuilds_count r)

pub lowers_count : {n m : ℕ} {is os : List Instruction} {t u : Terminator} {ds : List ValueId} → Lowers n is t os u ds m → n + length os ≤ length is + m
lowers_count Lowers.ended = omega arith
lowers_count (Lowers.returned r) = omega (arith, rebuilds_count r)
lowers_count (Lowers.returned_behind x v) = omega (arith, builds_count x)
lowers_count (Lowers.kept r) = omega (arith, lowers_count r)
lowers_count (Lowers.left v r) = omega (arith, lowers_count r)
lowers_count (Lowers.assigned s r) = omega (arith, lowers_count r)
lowers_count (Lowers.called {bs} x r) = rw (length-append bs) (omega (arith, rebuilds_count x, lowers_count r))
lowers_count (Lowers.stored {bs} x r) = rw (length-append bs) (omega (arith, rebuilds_count x, lowers_count r))
lowers_count (Lowers.kept_behind {bs} x v r) = rw (length-append bs) (omega (arith, builds_count x, lowers_count r))
