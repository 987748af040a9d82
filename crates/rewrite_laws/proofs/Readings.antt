-- An instruction with other values in the places of its readings: it fits where they fit, and defines what it did.
use Prim.Native.Nat.{suc, ◌<◌, ◌≤◌}
use mathlib.Core.Path.{◌≡◌, refl, ap}
use mathlib.Core.List.{List, [], ◌∷◌, ◌++◌}
use mathlib.Core.Bool.{Bool}
use native.Mathlib.Omega.{arith}
use lib.ListN.{length}
use Rattle.bytes_wire.specs.WellFormed.{FitValue}
use Rattle.mir.specs.declared.ValueId.{ValueId}
use Rattle.mir.specs.declared.Value.{Value}
use Rattle.mir.specs.declared.Projection.{Projection}
use Rattle.mir.specs.declared.Projection.TheVariants.{Index, Field, Tuple}
use Rattle.mir.specs.Syntax.{FieldInit, InstructionKind, Assign, UnaryOp, BinaryOp, Call, Cast, Load, Store, Debug, Nop, Phi}
use Rattle.mir.specs.Syntax.{MakeTuple, ExtractTupleElement, MakeStruct, ExtractStructField, InsertField, InsertTuple, MakeFixedArray, AssertEq, HeapAllocCells}
use Rattle.mir.specs.Reads.{dests, is_phi, indices, init_values}
use Rattle.mir.specs.Lists.{Each}
use Rattle.bytes_field.specs.declared.Bounds.{Bounds}
use Rattle.bytes_laws.specs.WellFormed.{FitList, FitProjection, FitInit, FitKind}
use Rattle.rewrite.specs.Readings.{readings, first, others, base_of, with_indices, behind_indices, with_inits, with_readings}

-- it defines what it did, and is a Phi where it was one
pub same_dests : (k : InstructionKind) (vs : List Value) → (dests (with_readings k vs) ≡ dests k) × (is_phi (with_readings k vs) ≡ is_phi k)
unfolding with_readings
same_dests (Assign d x t) vs = (refl, refl)
same_dests (UnaryOp op d x) vs = (refl, refl)
same_dests (BinaryOp op d x y) vs = (refl, refl)
same_dests (Call ds f xs ps rs) vs = (refl, refl)
same_dests (Cast d x t u) vs = (refl, refl)
same_dests (Load d p t) vs = (refl, refl)
same_dests (Store p x t) vs = (refl, refl)
same_dests (Debug m xs) vs = (refl, refl)
same_dests Nop vs = (refl, refl)
same_dests (Phi d t ss) vs = (refl, refl)
same_dests (MakeTuple d xs) vs = (refl, refl)
same_dests (ExtractTupleElement d x k t) vs = (refl, refl)
same_dests (MakeStruct d fs t) vs = (refl, refl)
same_dests (ExtractStructField d x n t) vs = (refl, refl)
same_dests (InsertField d x n y t) vs = (refl, refl)
same_dests (InsertTuple d x k y t) vs = (refl, refl)
same_dests (MakeFixedArray d xs t c) vs = (refl, refl)
same_dests (AssertEq x y) vs = (refl, refl)
same_dests (HeapAllocCells d x) vs = (refl, refl)

module _ (c : Bounds) where
  abbrev fit : Value → Type 0
  fit x = FitValue c.next x

  first_fit : (x : Value) (vs : List Value) → fit x → Each fit vs → fit (first x vs)
  unfolding first
  first_fit x [] p h = p
  first_fit x (v ∷ vs) p h = h.0

  others_fit : (vs : List Value) → Each fit vs → Each fit (others vs)
  unfolding others
  others_fit [] h = tt
  others_fit (v ∷ vs) h = h.1

  base_fit : (d : ValueId) (x : Value) → d.0 < c.next → fit x → (base_of d x).0 < c.next
  unfolding base_of
  base_fit d (Value.Literal l) h p = h
  base_fit d (Value.Operand v) h p = p.0
  base_fit d Value.Error h p = h

  indices_fit : (ps : List Projection) (vs : List Value) → Each (FitProjection c) ps → Each fit vs → (length (with_indices ps vs) ≡ length ps) × Each (FitProjection c) (with_indices ps vs)
  unfolding with_indices
  indices_fit [] vs p h = (refl, tt)
  indices_fit (Index x ∷ ps) vs p h = let r = indices_fit ps (others vs) p.1 (others_fit vs h) in (ap (λ n. suc n) r.0, (first_fit x vs p.0 h, r.1))
  indices_fit (Field n ∷ ps) vs p h = let r = indices_fit ps vs p.1 h in (ap (λ n. suc n) r.0, (p.0, r.1))
  indices_fit (Tuple k ∷ ps) vs p h = let r = indices_fit ps vs p.1 h in (ap (λ n. suc n) r.0, (p.0, r.1))

  steps_fit : (ps : List Projection) (vs : List Value) → FitList c.projections (FitProjection c) ps → Each fit vs → FitList c.projections (FitProjection c) (with_indices ps vs)
  steps_fit ps vs p h = let r = indices_fit ps vs p.1 h in (omega (arith, r.0, p.0), r.1)

  behind_fit : (ps : List Projection) (vs : List Value) → Each fit vs → Each fit (behind_indices ps vs)
  unfolding behind_indices
  behind_fit [] vs h = h
  behind_fit (Index x ∷ ps) vs h = behind_fit ps (others vs) (others_fit vs h)
  behind_fit (Field n ∷ ps) vs h = behind_fit ps vs h
  behind_fit (Tuple k ∷ ps) vs h = behind_fit ps vs h

  inits_fit : (fs : List FieldInit) (vs : List Value) → Each (FitInit c) fs → Each fit vs → (length (with_inits fs vs) ≡ length fs) × Each (FitInit c) (with_inits fs vs)
  unfolding with_inits
  inits_fit [] vs p h = (refl, tt)
  inits_fit (f ∷ fs) vs p h = let r = inits_fit fs (others vs) p.1 (others_fit vs h) in (ap (λ n. suc n) r.0, ((p.0.0, first_fit f.value vs p.0.1 h), r.1))

  list_fit : (xs vs : List Value) → FitList c.list fit xs → length vs ≡ length xs → Each fit vs → FitList c.list fit vs
  list_fit xs vs p e h = (omega (arith, e, p.0), h)

  two_fit : (x y : Value) (vs : List Value) → fit x → fit y → Each fit vs → fit (first x vs) × fit (first y (others vs))
  two_fit x y vs p q h = (first_fit x vs p h, first_fit y (others vs) q (others_fit vs h))

  -- it fits
  pub with_fit : (top : c.next ≤ 65536) (marks : List Bool) (k : InstructionKind) (vs : List Value) → FitKind c marks k → length vs ≡ length (readings k) → Each fit vs → FitKind c marks (with_readings k vs)
  unfolding readings with_readings
  with_fit top marks (Assign d x t) vs f e h = (f.0, first_fit x vs f.1 h, f.2)
  with_fit top marks (UnaryOp op d x) vs f e h = (f.0, f.1, first_fit x vs f.2 h)
  with_fit top marks (BinaryOp op d x y) vs f e h = let r = two_fit x y vs f.2 f.3 h in (f.0, f.1, r.0, r.1)
  with_fit top marks (Call ds q xs ps rs) vs f e h = (f.0, f.1, list_fit xs vs f.2 e h, f.3, f.4, f.5)
  with_fit top marks (Cast d x t u) vs f e h = (f.0, first_fit x vs f.1 h, f.2, f.3)
  with_fit top marks (Load d p t) vs f e h =
      (f.0, (base_fit p.base _ f.1.0 (first_fit (Value.Operand p.base) vs (f.1.0, top) h), steps_fit p.projections (others vs) f.1.1 (others_fit vs h)), f.2)
  with_fit top marks (Store p x t) vs f e h =
      ((f.0.0, steps_fit p.projections vs f.0.1 h), first_fit x (behind_indices p.projections vs) f.1 (behind_fit p.projections vs h), f.2)
  with_fit top marks (Debug m xs) vs f e h = (f.0, list_fit xs vs f.1 e h)
  with_fit top marks Nop vs f e h = tt
  with_fit top marks (Phi d t ss) vs f e h = f
  with_fit top marks (MakeTuple d xs) vs f e h = (f.0, list_fit xs vs f.1 e h)
  with_fit top marks (ExtractTupleElement d x k t) vs f e h = (f.0, first_fit x vs f.1 h, f.2, f.3)
  with_fit top marks (MakeStruct d fs t) vs f e h = let r = inits_fit fs vs f.1.1 h in (f.0, (omega (arith, r.0, f.1.0), r.1), f.2)
  with_fit top marks (ExtractStructField d x n t) vs f e h = (f.0, first_fit x vs f.1 h, f.2, f.3)
  with_fit top marks (InsertField d x n y t) vs f e h = let r = two_fit x y vs f.1 f.3 h in (f.0, r.0, f.2, r.1, f.4)
  with_fit top marks (InsertTuple d x k y t) vs f e h = let r = two_fit x y vs f.1 f.3 h in (f.0, r.0, f.2, r.1, f.4)
  with_fit top marks (MakeFixedArray d xs t q) vs f e h = (f.0, list_fit xs vs f.1 e h, f.2)
  with_fit top marks (AssertEq x y) vs f e h = two_fit x y vs f.0 f.1 h
  with_fit top marks (HeapAllocCells d x) vs f e h = (f.0, first_fit x vs f.1 h)

  -- the values that it reads fit
  indices_read : (ps : List Projection) → Each (FitProjection c) ps → Each fit (indices ps)
  indices_read [] h = tt
  indices_read (Index x ∷ ps) h = (h.0, indices_read ps h.1)
  indices_read (Field n ∷ ps) h = indices_read ps h.1
  indices_read (Tuple k ∷ ps) h = indices_read ps h.1

  and_last : (xs : List Value) (x : Value) → Each fit xs → fit x → Each fit (xs ++ (x ∷ []))
  and_last [] x h p = (p, tt)
  and_last (y ∷ xs) x h p = (h.0, and_last xs x h.1 p)

  inits_read : (fs : List FieldInit) → Each (FitInit c) fs → Each fit (init_values fs)
  inits_read [] h = tt
  inits_read (f ∷ fs) h = (h.0.1, inits_read fs h.1)

  pub readings_fit : (top : c.next ≤ 65536) (marks : List Bool) (k : InstructionKind) → FitKind c marks k → Each fit (readings k)
  unfolding readings
  readings_fit top marks (Assign d x t) f = (f.1, tt)
  readings_fit top marks (UnaryOp op d x) f = (f.2, tt)
  readings_fit top marks (BinaryOp op d x y) f = (f.2, (f.3, tt))
  readings_fit top marks (Call ds q xs ps rs) f = f.2.1
  readings_fit top marks (Cast d x t u) f = (f.1, tt)
  readings_fit top marks (Load d p t) f = ((f.1.0, top), indices_read p.projections f.1.1.1)
  readings_fit top marks (Store p x t) f = and_last (indices p.projections) x (indices_read p.projections f.0.1.1) f.1
  readings_fit top marks (Debug m xs) f = f.1.1
  readings_fit top marks Nop f = tt
  readings_fit top marks (Phi d t ss) f = tt
  readings_fit top marks (MakeTuple d xs) f = f.1.1
  readings_fit top marks (ExtractTupleElement d x k t) f = (f.1, tt)
  readings_fit top marks (MakeStruct d fs t) f = inits_read fs f.1.1
  readings_fit top marks (ExtractStructField d x n t) f = (f.1, tt)
  readings_fit top marks (InsertField d x n y t) f = (f.1, (f.3, tt))
  readings_fit top marks (InsertTuple d x k y t) f = (f.1, (f.3, tt))
  readings_fit top marks (MakeFixedArray d xs t q) f = f.1.1
  readings_fit top marks (AssertEq x y) f = (f.0, (f.1, tt))
  readings_fit top marks (HeapAllocCells d x) f = (f.1, tt)
