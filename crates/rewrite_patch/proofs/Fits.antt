-- The readings of an instruction that has a byte form have one, so that they are read back.
use Prim.Native.Nat.{ℕ, zero, suc, ◌+◌, ◌*◌, ◌/◌, ◌%◌, ◌≤◌, ◌<◌}
use mathlib.Core.Path.{◌≡◌, refl, ap, ◌∙◌}
use mathlib.Core.List.{List, [], ◌∷◌, ◌++◌}
use mathlib.Core.Bool.{Bool}
use native.Mathlib.Omega.{arith}
use lib.ListN.{length, get_or, drop, length-append}
use Rattle.bytes_wire.specs.Number.{at16}
use Rattle.bytes_wire.specs.Value.{value_of, value_bytes}
use Rattle.bytes_wire.specs.WellFormed.{FitValue}
use Rattle.bytes_wire.proofs.RoundTrip.{value_back}
use Rattle.mir.specs.Lists.{Each}
use Rattle.mir.specs.declared.Value.{Value}
use Rattle.mir.specs.declared.ValueId.{ValueId}
use Rattle.mir.specs.declared.Projection.{Projection}
use Rattle.mir.specs.declared.Projection.TheVariants.{Index, Field, Tuple}
use Rattle.mir.specs.Syntax.{FieldInit, InstructionKind}
use Rattle.mir.specs.Syntax.{Assign, UnaryOp, BinaryOp, Call, Cast, Load, Store, Debug, Nop, Phi}
use Rattle.mir.specs.Syntax.{MakeTuple, ExtractTupleElement, MakeStruct, ExtractStructField, InsertField, InsertTuple, MakeFixedArray, AssertEq, HeapAllocCells}
use Rattle.mir.specs.Reads.{indices, init_values}
use Rattle.bytes_field.specs.Encode.{value_id_bytes}
use Rattle.bytes_field.specs.declared.Bounds.{Bounds}
use Rattle.bytes_laws.specs.WellFormed.{Wide, FitProjection, FitInit, FitKind}
use Rattle.bytes_operands.specs.Fields.{ValueAt, stands}
use Rattle.rewrite.specs.Readings.{readings}
use Rattle.rewrite_patch.proofs.Found.{inits_long}
use Rattle.rewrite_patch.proofs.Walked.{first_byte, behind_run}

each_append : (P : Value → Type 0) (xs ys : List Value) → Each P xs → Each P ys → Each P (xs ++ ys)
each_append P [] ys e f = f
each_append P (x ∷ xs) ys e f = (e.0, each_append P xs ys e.1 f)

-- what holds of each holds of the one at a place
pub each_at : (P : Value → Type 0) (xs : List Value) → Each P xs → (j : ℕ) → j < length xs → P (get_or xs j Value.Error)
each_at P [] e j h = absurd (omega arith)
each_at P (x ∷ xs) e zero h = e.0
each_at P (x ∷ xs) e (suc j) h = each_at P xs e.1 j (omega arith)

indices_fit : (b : Bounds) (ps : List Projection) → Each (FitProjection b) ps → Each (FitValue b.next) (indices ps)
indices_fit b [] e = tt
indices_fit b (Index x ∷ ps) e = (e.0, indices_fit b ps e.1)
indices_fit b (Field n ∷ ps) e = indices_fit b ps e.1
indices_fit b (Tuple k ∷ ps) e = indices_fit b ps e.1

inits_fit : (b : Bounds) (fs : List FieldInit) → Each (FitInit b) fs → Each (FitValue b.next) (init_values fs)
inits_fit b [] e = tt
inits_fit b (f ∷ fs) e = (e.0.1, inits_fit b fs e.1)

pub readings_fit : (b : Bounds) (seen : List Bool) (k : InstructionKind) → Wide b → FitKind b seen k → Each (FitValue b.next) (readings k)
unfolding readings
readings_fit b seen (Assign d x t) w h = (h.1, tt)
readings_fit b seen (UnaryOp op d x) w h = (h.2, tt)
readings_fit b seen (BinaryOp op d x y) w h = (h.2, (h.3, tt))
readings_fit b seen (Call ds f xs ps rs) w h = h.2.1
readings_fit b seen (Cast d x t u) w h = (h.1, tt)
readings_fit b seen (Load d p t) w h = ((h.1.0, w.next), indices_fit b p.projections h.1.1.1)
readings_fit b seen (Store p x t) w h = each_append (FitValue b.next) (indices p.projections) (x ∷ []) (indices_fit b p.projections h.0.1.1) (h.1, tt)
readings_fit b seen (Debug m xs) w h = h.1.1
readings_fit b seen Nop w h = tt
readings_fit b seen (Phi d t ss) w h = tt
readings_fit b seen (MakeTuple d xs) w h = h.1.1
readings_fit b seen (ExtractTupleElement d x k t) w h = (h.1, tt)
readings_fit b seen (MakeStruct d fs t) w h = inits_fit b fs h.1.1
readings_fit b seen (ExtractStructField d x n t) w h = (h.1, tt)
readings_fit b seen (InsertField d x n y t) w h = (h.1, (h.3, tt))
readings_fit b seen (InsertTuple d x k y t) w h = (h.1, (h.3, tt))
readings_fit b seen (MakeFixedArray d xs t c) w h = h.1.1
readings_fit b seen (AssertEq x y) w h = (h.0, (h.1, tt))
readings_fit b seen (HeapAllocCells d x) w h = (h.1, tt)

-- and there are 16 at most
indices_most : (ps : List Projection) → length (indices ps) ≤ length ps
indices_most [] = omega arith
indices_most (Index x ∷ ps) = omega (arith, indices_most ps)
indices_most (Field n ∷ ps) = omega (arith, indices_most ps)
indices_most (Tuple k ∷ ps) = omega (arith, indices_most ps)

pub readings_most : (b : Bounds) (seen : List Bool) (k : InstructionKind) → b.list ≤ 16 → b.projections ≤ 8 → FitKind b seen k → length (readings k) ≤ 16
unfolding readings
readings_most b seen (Assign d x t) l g h = omega arith
readings_most b seen (UnaryOp op d x) l g h = omega arith
readings_most b seen (BinaryOp op d x y) l g h = omega arith
readings_most b seen (Call ds f xs ps rs) l g h = omega (arith, h.2.0)
readings_most b seen (Cast d x t u) l g h = omega arith
readings_most b seen (Load d p t) l g h = omega (arith, indices_most p.projections, h.1.1.0)
readings_most b seen (Store p x t) l g h = omega (arith, length-append (indices p.projections) (x ∷ []), indices_most p.projections, h.0.1.0)
readings_most b seen (Debug m xs) l g h = omega (arith, h.1.0)
readings_most b seen Nop l g h = omega arith
readings_most b seen (Phi d t ss) l g h = omega arith
readings_most b seen (MakeTuple d xs) l g h = omega (arith, h.1.0)
readings_most b seen (ExtractTupleElement d x k t) l g h = omega arith
readings_most b seen (MakeStruct d fs t) l g h = omega (arith, inits_long fs, h.1.0)
readings_most b seen (ExtractStructField d x n t) l g h = omega arith
readings_most b seen (InsertField d x n y t) l g h = omega arith
readings_most b seen (InsertTuple d x k y t) l g h = omega arith
readings_most b seen (MakeFixedArray d xs t c) l g h = omega (arith, h.1.0)
readings_most b seen (AssertEq x y) l g h = omega arith
readings_most b seen (HeapAllocCells d x) l g h = omega arith

-- a value is read back where it stands
pub value_stands : (next : ℕ) (s r : List ℕ) (at : ℕ) (x : Value) → FitValue next x → drop at s ≡ value_bytes x ++ r → ValueAt next s at x
value_stands next s r at x f e = stands (length (value_bytes x)) (ap (value_of next) e ∙ value_back next x r f)

-- and a number
pub number_stands : (s r : List ℕ) (at : ℕ) (v : ValueId) → v.0 < 65536 → drop at s ≡ value_id_bytes v ++ r → at16 s at ≡ v.0
number_stands s r at v l e =
    let a : get_or s at 0 ≡ v.0 % 256 = first_byte s _ at e in
    let b : get_or s (at + 1) 0 ≡ v.0 / 256 % 256 = first_byte s _ (at + 1) (behind_run s (v.0 % 256 ∷ []) (v.0 / 256 % 256 ∷ r) at e) in
    join v.0 (v.0 / 256) (get_or s at 0) (get_or s (at + 1) 0) l refl a b
  where
    join : (x y p q : ℕ) → x < 65536 → y ≡ x / 256 → p ≡ x % 256 → q ≡ y % 256 → p + 256 * q ≡ x
    join x y p q l e f g = omega arith
