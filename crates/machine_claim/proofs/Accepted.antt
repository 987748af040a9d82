-- What a decoded routine gives: the refusals of the byte form, as the runs need them.
use Prim.Native.Nat.{ℕ, ◌<◌}
use mathlib.Core.List.{List, [], ◌∷◌, ◌++◌}
use mathlib.Core.Bool.{not, ◌||◌}
use mathlib.Core.Bool as B
use lib.Dec.{T, ltb, lt→ltb}
use Rattle.mir.specs.declared.ValueId.{ValueId}
use Rattle.mir.specs.declared.Value.{Value}
use Rattle.bytes_wire.specs.WellFormed.{FitValue}
use Rattle.mir.specs.declared.Projection.{Projection}
use Rattle.mir.specs.declared.Projection.TheVariants.{Index, Field}
use Rattle.mir.specs.Syntax.{Place, FieldInit, Source, Instruction, InstructionKind, Assign, UnaryOp, BinaryOp, Call, Cast, Load, Store, Debug, Nop, Phi}
use Rattle.mir.specs.Syntax.{MakeTuple, ExtractTupleElement, MakeStruct, ExtractStructField, InsertField, InsertTuple, MakeFixedArray, AssertEq, HeapAllocCells}
use Rattle.mir.specs.Syntax.{Terminator, Jump, If, BranchCmp, Return, Unreachable}
use Rattle.mir.specs.Reads.{operand, operands, indices, place_reads, source_values, init_values, reads, dests, is_phi, terminator_reads}
use Rattle.bytes_field.specs.Decode.{mark}
use Rattle.bytes_field.specs.declared.Bounds.{Bounds}
use Rattle.mir.specs.Lists.{Each}
use Rattle.bytes_laws.specs.WellFormed.{FitNews, FitProjection, FitPlace, FitSource, FitInit, FitKind, FitTerminator}
use Rattle.bytes_block.specs.Decode.{marks}
use Rattle.bytes_block.specs.WellFormed.{FitInstructions}
use Rattle.rewrite_laws.proofs.Marks.{dests_new}
use Rattle.shelf.specs.Lists.{every}
use Rattle.machine_simulation.specs.Static.{below}
use Rattle.machine_simulation.proofs.Tools.{both_l, both_r, both, every_append}

-- ---- refusal 4: values are below next

abbrev low : ℕ → ValueId → B.Bool
low m v = ltb v.0 m

fit_low : (m : ℕ) (v : ValueId) → v.0 < m → T (low m v)
fit_low m v h = lt→ltb v.0 m h

-- of a value in front of others
operand_low : (m : ℕ) (x : Value) (vs : List ValueId) → FitValue m x → T (every (low m) vs) → T (every (low m) (operand x vs))
operand_low m (Value.Literal l) vs h t = t
operand_low m (Value.Operand v) vs h t = both (low m v) (every (low m) vs) (fit_low m v h.0) t
operand_low m Value.Error vs h t = t

operands_low : (m : ℕ) (xs : List Value) → Each (FitValue m) xs → T (every (low m) (operands xs))
operands_low m [] h = tt
operands_low m (x ∷ xs) h = operand_low m x (operands xs) h.0 (operands_low m xs h.1)

inits_low : (b : Bounds) (fs : List FieldInit) → Each (FitInit b) fs → T (every (low b.next) (operands (init_values fs)))
inits_low b [] h = tt
inits_low b (f ∷ fs) h = operand_low b.next f.value (operands (init_values fs)) h.0.1 (inits_low b fs h.1)

sources_low : (b : Bounds) (ss : List Source) → Each (FitSource b) ss → T (every (low b.next) (operands (source_values ss)))
sources_low b [] h = tt
sources_low b (s ∷ ss) h = operand_low b.next s.value (operands (source_values ss)) h.0.1 (sources_low b ss h.1)

indices_low : (b : Bounds) (ps : List Projection) → Each (FitProjection b) ps → T (every (low b.next) (operands (indices ps)))
indices_low b [] h = tt
indices_low b (Index x ∷ ps) h = operand_low b.next x (operands (indices ps)) h.0 (indices_low b ps h.1)
indices_low b (Field n ∷ ps) h = indices_low b ps h.1
indices_low b (Projection.Tuple k ∷ ps) h = indices_low b ps h.1

place_low : (b : Bounds) (p : Place) → FitPlace b p → T (every (low b.next) (place_reads p))
place_low b p h = both (low b.next p.base) _ (fit_low b.next p.base h.0) (indices_low b p.projections h.1.1)

pub news_low : (b : Bounds) (seen : List B.Bool) (ds : List ValueId) → FitNews b seen ds → T (every (low b.next) ds)
news_low b seen [] h = tt
news_low b seen (d ∷ ds) h = both (low b.next d) _ (fit_low b.next d h.0.0) (news_low b (mark seen d) ds h.1)

two_low : (m : ℕ) (x y : Value) → FitValue m x → FitValue m y → T (every (low m) (operand x (operand y [])))
two_low m x y h k = operand_low m x (operand y []) h (operand_low m y [] k tt)

reads_low : (b : Bounds) (seen : List B.Bool) (i : InstructionKind) → FitKind b seen i → T (every (low b.next) (reads i))
reads_low b seen (Assign d x t) h = operand_low b.next x [] h.1 tt
reads_low b seen (UnaryOp op d x) h = operand_low b.next x [] h.2 tt
reads_low b seen (BinaryOp op d x y) h = two_low b.next x y h.2 h.3
reads_low b seen (Call ds f xs ps rs) h = operands_low b.next xs h.2.1
reads_low b seen (Cast d x t u) h = operand_low b.next x [] h.1 tt
reads_low b seen (Load d p t) h = place_low b p h.1
reads_low b seen (Store p x t) h = every_append (low b.next) (place_reads p) (operand x []) (place_low b p h.0) (operand_low b.next x [] h.1 tt)
reads_low b seen (Debug m xs) h = operands_low b.next xs h.1.1
reads_low b seen Nop h = tt
reads_low b seen (Phi d t ss) h = sources_low b ss h.2.1
reads_low b seen (MakeTuple d xs) h = operands_low b.next xs h.1.1
reads_low b seen (ExtractTupleElement d x k t) h = operand_low b.next x [] h.1 tt
reads_low b seen (MakeStruct d fs t) h = inits_low b fs h.1.1
reads_low b seen (ExtractStructField d x n t) h = operand_low b.next x [] h.1 tt
reads_low b seen (InsertField d x n y t) h = two_low b.next x y h.1 h.3
reads_low b seen (InsertTuple d x k y t) h = two_low b.next x y h.1 h.3
reads_low b seen (MakeFixedArray d xs t c) h = operands_low b.next xs h.1.1
reads_low b seen (AssertEq x y) h = two_low b.next x y h.0 h.1
reads_low b seen (HeapAllocCells d x) h = operand_low b.next x [] h.1 tt

pub instructions_below : (b : Bounds) (seen : List B.Bool) (late : B.Bool) (is : List Instruction) → FitInstructions b seen late is → T (below b.next is)
unfolding below
instructions_below b seen late [] h = tt
instructions_below b seen late (i ∷ is) h =
    both (every (low b.next) (reads i.kind)) _ (reads_low b seen i.kind h.0.1)
    (both (every (low b.next) (dests i.kind)) _ (news_low b seen (dests i.kind) (dests_new b seen i.kind h.0.1))
    (instructions_below b (marks seen (dests i.kind)) (late || not (is_phi i.kind)) is h.1))

pub end_below : (b : Bounds) (t : Terminator) → FitTerminator b t → T (every (λ v. ltb v.0 b.next) (terminator_reads t))
end_below b (Jump p) h = tt
end_below b (If x p q) h = operand_low b.next x [] h.0 tt
end_below b (BranchCmp op x y p q) h = two_low b.next x y h.1 h.2
end_below b (Return xs) h = operands_low b.next xs h.1
end_below b Unreachable h = tt
