-- "a value read or defined .. lacks a recorded type, or Error stands as a value": what passes the tests of reason 1 does not.
use Prim.Native.Nat.{ℕ, suc}
use mathlib.Core.Option.{Option, none, some}
use mathlib.Core.List.{List, [], ◌∷◌}
use mathlib.Core.Bool.{true, false, ◌&&◌}
use mathlib.Core.Bool as B
use lib.Dec.{T, eqb, eqb-zero-suc}
use Rattle.mir.specs.declared.ValueId.{ValueId}
use Rattle.mir.specs.declared.TypeId.{TypeId}
use Rattle.mir.specs.declared.Value.{Value}
use Rattle.mir.specs.Syntax.{InstructionKind, Assign, UnaryOp, BinaryOp, Call, Cast, Load, Store, Debug, Nop, Phi}
use Rattle.mir.specs.Syntax.{MakeTuple, ExtractTupleElement, MakeStruct, ExtractStructField, InsertField, InsertTuple, MakeFixedArray, AssertEq, HeapAllocCells}
use Rattle.mir.specs.Reads.{operands, reads, dests}
use Rattle.mir.specs.Lookup.{Types, row_of, recorded_type, value_row, is_tuple, is_array, shape, is_some}
use Rattle.shelf.specs.Lists.{every}
use Rattle.shelf.specs.Fits.{same_type, fits, arguments_fit}
use Rattle.shelf.specs.Agrees.{is_scalar_type, is_scalar, dests_fit, agrees, counted_agrees, is_known}
use Rattle.shelf.proofs.Both.{both_l, both_r, both}
use Rattle.shelf.proofs.Flag.{agrees_all, agrees_aside}

-- a type that is the same as another is there
same_some : (o : Option TypeId) (t : Option TypeId) → T (same_type o t) → T (is_some o)
unfolding same_type is_some
same_some none t h = h
same_some (some u) t h = tt

-- a value that fits a type is known
pub fits_known : (τ : Types) (x : Value) (t : Option TypeId) → T (fits τ x t) → T (is_known τ x)
unfolding fits is_known
fits_known τ (Value.Literal l) t h = tt
fits_known τ (Value.Operand v) t h = same_some (recorded_type τ v) t h
fits_known τ Value.Error t h = h

pub scalar_known : (τ : Types) (x : Value) → T (is_scalar τ x) → T (is_known τ x)
unfolding is_scalar is_scalar_type is_known is_some
scalar_known τ (Value.Literal l) h = tt
scalar_known τ (Value.Operand v) h = at (recorded_type τ v) h
  where
    at : (o : Option TypeId) → T (is_scalar_type τ o) → T (is_some o)
    at none h = h
    at (some t) h = tt
scalar_known τ Value.Error h = h

-- what known values read has a recorded type
pub known_recorded : (τ : Types) (xs : List Value) → T (every (is_known τ) xs) → T (every (λ v. is_some (recorded_type τ v)) (operands xs))
unfolding is_known
known_recorded τ [] h = tt
known_recorded τ (Value.Literal l ∷ xs) h = known_recorded τ xs h
known_recorded τ (Value.Operand v ∷ xs) h =
    both (is_some (recorded_type τ v)) _ (both_l (is_some (recorded_type τ v)) (every (is_known τ) xs) h) (known_recorded τ xs (both_r (is_some (recorded_type τ v)) (every (is_known τ) xs) h))
known_recorded τ (Value.Error ∷ xs) h = absurd h

-- with the flag, "Debug's" too: each of its values is known, and what it reads has a recorded type
pub debug_known : (τ : Types) (m : ℕ) (xs : List Value) → T (counted_agrees true τ (Debug m xs)) → T (every (is_known τ) xs)
unfolding agrees
debug_known τ m xs h = agrees_all τ (Debug m xs) h

pub debug_recorded : (τ : Types) (m : ℕ) (xs : List Value) → T (counted_agrees true τ (Debug m xs)) → T (every (λ v. is_some (recorded_type τ v)) (reads (Debug m xs)))
debug_recorded τ m xs h = known_recorded τ xs (debug_known τ m xs h)

-- the dests have recorded types
scalar_recorded : (τ : Types) (d : ValueId) → T (is_scalar_type τ (recorded_type τ d)) → T (is_some (recorded_type τ d))
unfolding is_scalar_type is_some
scalar_recorded τ d h = at (recorded_type τ d) h
  where
    at : (o : Option TypeId) → T (is_scalar_type τ o) → T (is_some o)
    at none h = h
    at (some t) h = tt

shape_recorded : (τ : Types) (d : ValueId) (k : ℕ) → T (eqb (shape (value_row τ d)) (suc k)) → T (is_some (recorded_type τ d))
unfolding value_row row_of shape is_some
shape_recorded τ d k h = at (recorded_type τ d) h
  where
    at : (o : Option TypeId) → T (eqb (shape (row_of τ o)) (suc k)) → T (is_some o)
    at none h = rw (eqb-zero-suc k) at h
    at (some t) h = tt

dests_fit_lem : (τ : Types) (ds : List ValueId) (ts : List TypeId) → T (dests_fit τ ds ts) → T (every (λ d. is_some (recorded_type τ d)) ds)
unfolding dests_fit
dests_fit_lem τ [] ts h = tt
dests_fit_lem τ (d ∷ ds) [] h = absurd h
dests_fit_lem τ (d ∷ ds) (t ∷ ts) h =
    both (is_some (recorded_type τ d)) _ (same_some (recorded_type τ d) (some t) (both_l (same_type (recorded_type τ d) (some t)) (dests_fit τ ds ts) h))
    (dests_fit_lem τ ds ts (both_r (same_type (recorded_type τ d) (some t)) (dests_fit τ ds ts) h))

one_dest : (τ : Types) (d : ValueId) → T (is_some (recorded_type τ d)) → T (every (λ d. is_some (recorded_type τ d)) (d ∷ []))
one_dest τ d h = both (is_some (recorded_type τ d)) true h tt

same_dest : (τ : Types) (d : ValueId) (t : TypeId) (b : B.Bool) → T (same_type (recorded_type τ d) (some t) && b) → T (every (λ d. is_some (recorded_type τ d)) (d ∷ []))
same_dest τ d t b h = one_dest τ d (same_some (recorded_type τ d) (some t) (both_l (same_type (recorded_type τ d) (some t)) b h))

scalar_dest : (τ : Types) (d : ValueId) (b : B.Bool) → T (is_scalar_type τ (recorded_type τ d) && b) → T (every (λ d. is_some (recorded_type τ d)) (d ∷ []))
scalar_dest τ d b h = one_dest τ d (scalar_recorded τ d (both_l (is_scalar_type τ (recorded_type τ d)) b h))

-- Debug defines nothing
dests_aside : (τ : Types) (i : InstructionKind) → T (counted_agrees false τ i) → T (every (λ d. is_some (recorded_type τ d)) (dests i))
unfolding agrees counted_agrees is_tuple is_array
dests_aside τ (Assign d x t) h = same_dest τ d t _ h
dests_aside τ (UnaryOp op d x) h = scalar_dest τ d _ h
dests_aside τ (BinaryOp op d x y) h = scalar_dest τ d _ h
dests_aside τ (Call ds f xs ps rs) h = dests_fit_lem τ ds rs (both_r (arguments_fit τ xs ps) (dests_fit τ ds rs) h)
dests_aside τ (Cast d x t u) h = scalar_dest τ d _ h
dests_aside τ (Load d p t) h = same_dest τ d t _ h
dests_aside τ (Store p x t) h = tt
dests_aside τ (Debug m xs) h = tt
dests_aside τ Nop h = tt
dests_aside τ (Phi d t ss) h = same_dest τ d t _ h
dests_aside τ (MakeTuple d xs) h = one_dest τ d (shape_recorded τ d 0 (both_l (eqb (shape (value_row τ d)) 1) _ h))
dests_aside τ (ExtractTupleElement d x k t) h = same_dest τ d t _ h
dests_aside τ (MakeStruct d fs t) h = same_dest τ d t _ h
dests_aside τ (ExtractStructField d x n t) h = same_dest τ d t _ h
dests_aside τ (InsertField d x n y t) h = same_dest τ d t _ h
dests_aside τ (InsertTuple d x k y t) h = same_dest τ d t _ h
dests_aside τ (MakeFixedArray d xs t c) h = one_dest τ d (shape_recorded τ d 2 (both_l (eqb (shape (value_row τ d)) 3) _ h))
dests_aside τ (AssertEq x y) h = tt
dests_aside τ (HeapAllocCells d x) h = scalar_dest τ d _ h

-- "defined"
pub dests_recorded : (debug : B.Bool) (τ : Types) (i : InstructionKind) → T (counted_agrees debug τ i) → T (every (λ d. is_some (recorded_type τ d)) (dests i))
dests_recorded debug τ i h = dests_aside τ i (agrees_aside debug τ i h)
