-- An instruction with other values in the places of its readings: what stays as it was, and what it reads.
use mathlib.Core.Path.{◌≡◌, refl, ap}
use native.Mathlib.Omega.{arith}
use Prim.Native.Nat.{suc}
use mathlib.Core.Bool.{Bool, true, false, not}
use mathlib.Core.Option.{some}
use mathlib.Core.List.{List, [], ◌∷◌, ◌++◌}
use lib.Dec.{T, eqb}
use lib.ListN.{length}
use Rattle.mir.specs.declared.ValueId.{ValueId}
use Rattle.mir.specs.declared.Value.{Value}
use Rattle.mir.specs.Syntax.{FieldInit, InstructionKind}
use Rattle.mir.specs.declared.Projection.{Projection}
use Rattle.mir.specs.declared.Projection.TheVariants.{Index, Field, Tuple}
use Rattle.mir.specs.Syntax.{Assign, UnaryOp, BinaryOp, Call, Cast, Load, Store, Debug, Nop, Phi}
use Rattle.mir.specs.Syntax.{MakeTuple, ExtractTupleElement, MakeStruct, ExtractStructField, InsertField, InsertTuple, MakeFixedArray, AssertEq, HeapAllocCells}
use Rattle.mir.specs.Reads.{operand, operands, indices, init_values, reads, store_base, counted, kind_number}
use Rattle.rewrite.specs.Readings.{readings, first, others, base_of, with_indices, behind_indices, with_inits, with_readings}
use Rattle.shelf.specs.Lists.{every}
use Rattle.machine_simulation.proofs.Tools.{both_l, both_r, both, none_some}
use Rattle.machine_simulation.proofs.Rebuilds.{suc_inj}

-- the value that a Store changes does not depend on its readings
pub base_with : (k : InstructionKind) (vs : List Value) → store_base (with_readings k vs) ≡ store_base k
unfolding with_readings
base_with (Assign d x t) vs = refl
base_with (UnaryOp op d x) vs = refl
base_with (BinaryOp op d x y) vs = refl
base_with (Call ds f xs ps rs) vs = refl
base_with (Cast d x t u) vs = refl
base_with (Load d p t) vs = refl
base_with (Store p x t) vs = refl
base_with (Debug m xs) vs = refl
base_with Nop vs = refl
base_with (Phi d t ss) vs = refl
base_with (MakeTuple d xs) vs = refl
base_with (ExtractTupleElement d x k t) vs = refl
base_with (MakeStruct d fs t) vs = refl
base_with (ExtractStructField d x n t) vs = refl
base_with (InsertField d x n y t) vs = refl
base_with (InsertTuple d x k y t) vs = refl
base_with (MakeFixedArray d xs t c) vs = refl
base_with (AssertEq x y) vs = refl
base_with (HeapAllocCells d x) vs = refl

-- nor does its kind
pub kind_with : (k : InstructionKind) (vs : List Value) → kind_number (with_readings k vs) ≡ kind_number k
unfolding with_readings
kind_with (Assign d x t) vs = refl
kind_with (UnaryOp op d x) vs = refl
kind_with (BinaryOp op d x y) vs = refl
kind_with (Call ds f xs ps rs) vs = refl
kind_with (Cast d x t u) vs = refl
kind_with (Load d p t) vs = refl
kind_with (Store p x t) vs = refl
kind_with (Debug m xs) vs = refl
kind_with Nop vs = refl
kind_with (Phi d t ss) vs = refl
kind_with (MakeTuple d xs) vs = refl
kind_with (ExtractTupleElement d x k t) vs = refl
kind_with (MakeStruct d fs t) vs = refl
kind_with (ExtractStructField d x n t) vs = refl
kind_with (InsertField d x n y t) vs = refl
kind_with (InsertTuple d x k y t) vs = refl
kind_with (MakeFixedArray d xs t c) vs = refl
kind_with (AssertEq x y) vs = refl
kind_with (HeapAllocCells d x) vs = refl

-- a value in front of others
front_append : (y : Value) (a b : List ValueId) → operand y a ++ b ≡ operand y (a ++ b)
front_append (Value.Literal l) a b = refl
front_append (Value.Operand v) a b = refl
front_append Value.Error a b = refl

-- what passes behind it passes with it in front
front_test : (q : ValueId → Bool) (y : Value) (a b : List ValueId) → T (every q (operand y a)) → (T (every q a) → T (every q b)) → T (every q (operand y b))
front_test q (Value.Literal l) a b h f = f h
front_test q (Value.Operand v) a b h f = both (q v) (every q b) (both_l (q v) (every q a) h) (f (both_r (q v) (every q a) h))
front_test q Value.Error a b h f = f h

-- a value behind others
append_operands : (q : ValueId → Bool) (xs : List Value) (x : Value) → T (every q (operands xs ++ operand x [])) → T (every q (operands (xs ++ (x ∷ []))))
append_operands q [] x h = h
append_operands q (y ∷ xs) x h = front_test q y (operands xs ++ operand x []) (operands (xs ++ (x ∷ []))) (rw (front_append y (operands xs) (operand x [])) at h) (append_operands q xs x)

-- the readings are read
pub operands_read : (q : ValueId → Bool) (k : InstructionKind) → T (every q (reads k)) → T (every q (operands (readings k)))
unfolding readings
operands_read q (Assign d x t) h = h
operands_read q (UnaryOp op d x) h = h
operands_read q (BinaryOp op d x y) h = h
operands_read q (Call ds f xs ps rs) h = h
operands_read q (Cast d x t u) h = h
operands_read q (Load d p t) h = h
operands_read q (Store p x t) h = append_operands q (indices p.projections) x (both_r (q p.base) _ h)
operands_read q (Debug m xs) h = h
operands_read q Nop h = h
operands_read q (Phi d t ss) h = tt
operands_read q (MakeTuple d xs) h = h
operands_read q (ExtractTupleElement d x k t) h = h
operands_read q (MakeStruct d fs t) h = h
operands_read q (ExtractStructField d x n t) h = h
operands_read q (InsertField d x n y t) h = h
operands_read q (InsertTuple d x k y t) h = h
operands_read q (MakeFixedArray d xs t c) h = h
operands_read q (AssertEq x y) h = h
operands_read q (HeapAllocCells d x) h = h

-- as many values as readings
none_read : (q : ValueId → Bool) (vs : List Value) → length vs ≡ 0 → T (every q (operands vs))
none_read q [] e = tt
none_read q (v ∷ vs) e = absurd (omega (arith, e))

-- of one
one_read : (x : Value) (vs : List Value) → length vs ≡ 1 → operand (first x vs) [] ≡ operands vs
unfolding first
one_read x [] e = absurd (omega (arith, e))
one_read x (v ∷ []) e = refl
one_read x (v ∷ w ∷ vs) e = absurd (omega (arith, e))

-- of two
two_read : (x y : Value) (vs : List Value) → length vs ≡ 2 → operand (first x vs) (operand (first y (others vs)) []) ≡ operands vs
unfolding first others
two_read x y [] e = absurd (omega (arith, e))
two_read x y (v ∷ []) e = absurd (omega (arith, e))
two_read x y (v ∷ w ∷ []) e = refl
two_read x y (v ∷ w ∷ u ∷ vs) e = absurd (omega (arith, e))

-- of a struct's inits
inits_read : (fs : List FieldInit) (vs : List Value) → length vs ≡ length (init_values fs) → operands (init_values (with_inits fs vs)) ≡ operands vs
unfolding with_inits first others
inits_read [] [] e = refl
inits_read [] (v ∷ vs) e = absurd (omega (arith, e))
inits_read (f ∷ fs) [] e = absurd (omega (arith, e))
inits_read (f ∷ fs) (v ∷ vs) e = ap (operand v) (inits_read fs vs (suc_inj (length vs) (length (init_values fs)) e))

-- of the Index values of a place
indices_read : (ps : List Projection) (vs : List Value) → length vs ≡ length (indices ps) → operands (indices (with_indices ps vs)) ≡ operands vs
unfolding with_indices first others
indices_read [] [] e = refl
indices_read [] (v ∷ vs) e = absurd (omega (arith, e))
indices_read (Index x ∷ ps) [] e = absurd (omega (arith, e))
indices_read (Index x ∷ ps) (v ∷ vs) e = ap (operand v) (indices_read ps vs (suc_inj (length vs) (length (indices ps)) e))
indices_read (Field n ∷ ps) vs e = indices_read ps vs e
indices_read (Tuple k ∷ ps) vs e = indices_read ps vs e

-- a Load's base, then its Index values
load_read : (q : ValueId → Bool) (b : ValueId) (ps : List Projection) (vs : List Value) → length vs ≡ suc (length (indices ps))
    → T (every q (base_of b (first (Value.Operand b) vs) ∷ operands (indices (with_indices ps (others vs))))) → T (every q (operands vs))
unfolding first others base_of
load_read q b ps [] e h = absurd (omega (arith, e))
load_read q b ps (Value.Literal l ∷ vs) e h = rw (indices_read ps vs (suc_inj (length vs) (length (indices ps)) e)) at (both_r (q b) _ h)
load_read q b ps (Value.Operand v ∷ vs) e h = rw (indices_read ps vs (suc_inj (length vs) (length (indices ps)) e)) at h
load_read q b ps (Value.Error ∷ vs) e h = rw (indices_read ps vs (suc_inj (length vs) (length (indices ps)) e)) at (both_r (q b) _ h)

-- a Store's Index values, then its value
store_read : (q : ValueId → Bool) (ps : List Projection) (x : Value) (vs : List Value) → length vs ≡ length (indices ps ++ (x ∷ []))
    → T (every q (operands (indices (with_indices ps vs)) ++ operand (first x (behind_indices ps vs)) [])) → T (every q (operands vs))
unfolding with_indices behind_indices first others
store_read q [] x [] e h = absurd (omega (arith, e))
store_read q [] x (v ∷ []) e h = h
store_read q [] x (v ∷ w ∷ vs) e h = absurd (omega (arith, e))
store_read q (Index y ∷ ps) x [] e h = absurd (omega (arith, e))
store_read q (Index y ∷ ps) x (v ∷ vs) e h =
    front_test q v (operands (indices (with_indices ps vs)) ++ operand (first x (behind_indices ps vs)) []) (operands vs) (rw (front_append v (operands (indices (with_indices ps vs))) (operand (first x (behind_indices ps vs)) [])) at h)
    (store_read q ps x vs (suc_inj (length vs) (length (indices ps ++ (x ∷ []))) e))
store_read q (Field n ∷ ps) x vs e h = store_read q ps x vs e h
store_read q (Tuple k ∷ ps) x vs e h = store_read q ps x vs e h

-- what the instruction reads with other values in, are those
pub values_read : (q : ValueId → Bool) (k : InstructionKind) (vs : List Value) → length vs ≡ length (readings k) → T (every q (reads (with_readings k vs))) → T (every q (operands vs))
unfolding readings with_readings
values_read q (Assign d x t) vs e h = rw (one_read x vs e) at h
values_read q (UnaryOp op d x) vs e h = rw (one_read x vs e) at h
values_read q (BinaryOp op d x y) vs e h = rw (two_read x y vs e) at h
values_read q (Call ds f xs ps rs) vs e h = h
values_read q (Cast d x t u) vs e h = rw (one_read x vs e) at h
values_read q (Load d p t) vs e h = load_read q p.base p.projections vs e h
values_read q (Store p x t) vs e h = store_read q p.projections x vs e (both_r (q p.base) _ h)
values_read q (Debug m xs) vs e h = h
values_read q Nop vs e h = none_read q vs e
values_read q (Phi d t ss) vs e h = none_read q vs e
values_read q (MakeTuple d xs) vs e h = h
values_read q (ExtractTupleElement d x k t) vs e h = rw (one_read x vs e) at h
values_read q (MakeStruct d fs t) vs e h = rw (inits_read fs vs e) at h
values_read q (ExtractStructField d x n t) vs e h = rw (one_read x vs e) at h
values_read q (InsertField d x n y t) vs e h = rw (two_read x y vs e) at h
values_read q (InsertTuple d x k y t) vs e h = rw (two_read x y vs e) at h
values_read q (MakeFixedArray d xs t c) vs e h = h
values_read q (AssertEq x y) vs e h = rw (two_read x y vs e) at h
values_read q (HeapAllocCells d x) vs e h = rw (one_read x vs e) at h

-- Debug alone may not count
pub quiet : (debug : Bool) (k : InstructionKind) → T (not (counted debug k)) → T (eqb (kind_number k) 7) × (debug ≡ false)
quiet true k t = absurd t
quiet false k t = (twice (eqb (kind_number k) 7) t, refl)
  where
    twice : (b : Bool) → T (not (not b)) → T b
    twice true t = tt
    twice false t = absurd t

-- a Store's base is read
pub base_is_read : (q : ValueId → Bool) (k : InstructionKind) (b : ValueId) → store_base k ≡ some b → T (every q (reads k)) → T (q b)
base_is_read q (Assign d x t) b e h = absurd (none_some e)
base_is_read q (UnaryOp op d x) b e h = absurd (none_some e)
base_is_read q (BinaryOp op d x y) b e h = absurd (none_some e)
base_is_read q (Call ds f xs ps rs) b e h = absurd (none_some e)
base_is_read q (Cast d x t u) b e h = absurd (none_some e)
base_is_read q (Load d p t) b e h = absurd (none_some e)
base_is_read q (Store p x t) b e h = let z : p.base ≡ b = cc in rw (← z) (both_l (q p.base) _ h)
base_is_read q (Debug m xs) b e h = absurd (none_some e)
base_is_read q Nop b e h = absurd (none_some e)
base_is_read q (Phi d t ss) b e h = absurd (none_some e)
base_is_read q (MakeTuple d xs) b e h = absurd (none_some e)
base_is_read q (ExtractTupleElement d x k t) b e h = absurd (none_some e)
base_is_read q (MakeStruct d fs t) b e h = absurd (none_some e)
base_is_read q (ExtractStructField d x n t) b e h = absurd (none_some e)
base_is_read q (InsertField d x n y t) b e h = absurd (none_some e)
base_is_read q (InsertTuple d x k y t) b e h = absurd (none_some e)
base_is_read q (MakeFixedArray d xs t c) b e h = absurd (none_some e)
base_is_read q (AssertEq x y) b e h = absurd (none_some e)
base_is_read q (HeapAllocCells d x) b e h = absurd (none_some e)
