-- A tuple's own test, over the edges of the block's MakeTuples.
use Prim.Native.Nat.{ℕ}
use mathlib.Core.Path.{◌≡◌, refl, sym, ◌∙◌}
use mathlib.Core.List.{List, [], ◌∷◌}
use mathlib.Core.Bool.{Bool, true, false, cond, not, ◌&&◌, ◌||◌, or-true}
use borrow.Author.Tests.{eqb-true, eqb-false}
use lib.Dec.{eqb}
use Rattle.mir.specs.declared.Value.{Value}
use Rattle.mir.specs.Syntax.{Instruction, InstructionKind}
use Rattle.mir.specs.Syntax.{Assign, UnaryOp, BinaryOp, Call, Cast, Load, Store, Debug, Nop, Phi}
use Rattle.mir.specs.Syntax.{MakeTuple, ExtractTupleElement, MakeStruct, ExtractStructField, InsertField, InsertTuple, MakeFixedArray, AssertEq, HeapAllocCells}
use Rattle.mir.specs.Reads.{kind_number, operands, reads}
use Rattle.fold.specs.declared.Settings.{Settings}
use Rattle.mir.specs.Lists.{every}
use Rattle.mir.specs.Lookup.{Types, is_operand, any}
use Rattle.fold.specs.Family.{Marks, build_dest}
use Rattle.fold.specs.Climb.{can_scalarize}
use Rattle.fold.specs.Fold.{tuple_parent}
use Rattle.fold_climb.specs.Edges.{Edge, edge, part_edges, build_edges, tuple_edges_of, tuples_climb}

module _ (can : ℕ → Bool) (v : ℕ) where
  -- one part of a tuple d: the part is its own dest, or the value, or another
  part : (d w : ℕ) (es : List Edge) (own met any c rest same : Bool) → eqb d v ≡ own → eqb w v ≡ met → eqb w d ≡ same → can d ≡ c → tuples_climb can v es ≡ ((own || (not any || c)) && rest) → tuples_climb can v (cond same es (edge w d ∷ es)) ≡ ((own || (not (met || any) || c)) && rest)
  unfolding tuples_climb
  part d w es true met any c rest true o m s k ih = ih
  part d w es true true any c rest false o m s k ih = absurd (eqb-false w d s (eqb-true w v m ∙ sym (eqb-true d v o)))
  part d w es true false any c rest false o m s k ih = rw m ih
  part d w es false true any c rest true o m s k ih = absurd (eqb-false d v o (sym (eqb-true w d s) ∙ eqb-true w v m))
  part d w es false false any c rest true o m s k ih = ih
  part d w es false true true true rest false o m s k ih = rw (m, k) ih
  part d w es false true false true rest false o m s k ih = rw (m, k) ih
  part d w es false true any false rest false o m s k ih = rw (m, k)
  part d w es false false any c rest false o m s k ih = rw m ih

  -- a tuple d in front of others
  tuple : (d : ℕ) (xs : List Value) (es : List Edge) → tuples_climb can v (part_edges d (operands xs) es) ≡ ((eqb d v || (not (any (is_operand (record { 0 = v })) xs) || can d)) && tuples_climb can v es)
  unfolding part_edges any is_operand
  tuple d [] es = rw (or-true (eqb d v))
  tuple d (Value.Literal l ∷ xs) es = tuple d xs es
  tuple d (Value.Operand w ∷ xs) es =
      part d w.0 (part_edges d (operands xs) es) (eqb d v) (eqb w.0 v) (any (is_operand (record { 0 = v })) xs) (can d) (tuples_climb can v es) (eqb w.0 d) refl refl refl refl (tuple d xs es)
  tuple d (Value.Error ∷ xs) es = tuple d xs es

module _ (σ : Settings) (τ : Types) (cross : Marks) (is : List Instruction) (v : ℕ) where
  abbrev can : ℕ → Bool
  can p = can_scalarize σ τ cross is (record { 0 = p })

  one : (i : InstructionKind) (es : List Edge) → (tuple_parent σ τ cross is (record { 0 = v }) i && tuples_climb can v es) ≡ tuples_climb can v (cond (eqb (kind_number i) 10) (build_edges (build_dest i) (reads i) es) es)
  unfolding tuple_parent build_edges build_dest
  one (Assign d x t) es = refl
  one (UnaryOp op d x) es = refl
  one (BinaryOp op d x y) es = refl
  one (Call ds g xs ps rs) es = refl
  one (Cast d x t u) es = refl
  one (Load d p t) es = refl
  one (Store p x t) es = refl
  one (Debug n xs) es = refl
  one Nop es = refl
  one (Phi d t ss) es = refl
  one (MakeTuple d xs) es = sym (tuple can v d.0 xs es)
  one (ExtractTupleElement d x k t) es = refl
  one (MakeStruct d fs t) es = refl
  one (ExtractStructField d x n t) es = refl
  one (InsertField d x n y t) es = refl
  one (InsertTuple d x k y t) es = refl
  one (MakeFixedArray d xs t c) es = refl
  one (AssertEq x y) es = refl
  one (HeapAllocCells d x) es = refl

  -- the test over some instructions of the block
  pub over_tuples : (js : List Instruction) → every (λ i. tuple_parent σ τ cross is (record { 0 = v }) i.kind) js ≡ tuples_climb can v (tuple_edges_of js)
  unfolding tuple_edges_of tuples_climb
  over_tuples [] = refl
  over_tuples (i ∷ js) = rw (over_tuples js) (one i.kind (tuple_edges_of js))
