-- What of shelf reason 1 the runs need, and that the parts of tracked values fit.
use Rattle.std.specs.Prelude.{ℕ, ◌+◌, ◌≡◌, List, [], ◌∷◌, true, ◌&&◌, ◌||◌, T, eqb, length}
use Rattle.std.proofs.Math.Option.{Option, some}
use Rattle.std.proofs.Math.Bool as B
use Rattle.std.proofs.Math.ListN.{get_elem?}
use Rattle.mir.specs.declared.ValueId.{ValueId}
use Rattle.mir.specs.declared.TypeId.{TypeId}
use Rattle.mir.specs.declared.Value.{Value}
use Rattle.mir.specs.Syntax.{Place, Instruction, InstructionKind, Assign, UnaryOp, BinaryOp, Call, Cast, Load, Store, Debug, Nop, Phi}
use Rattle.mir.specs.Syntax.{MakeTuple, ExtractTupleElement, MakeStruct, ExtractStructField, InsertField, InsertTuple, MakeFixedArray}
use Rattle.mir.specs.Syntax.{AssertEq, HeapAllocCells}
use Rattle.fold.specs.declared.Settings.{Settings}
use Rattle.mir.specs.Lookup.{Types, row_of, recorded_type, value_row, is_tuple, is_struct, is_array, is_aggregate, struct_fields_of}
use Rattle.rewrite.specs.State.{AggStates}
use Rattle.rewrite.specs.Step.{step}
use Rattle.mir.specs.Parts.{part_type, part_count, operand_row, is_pointer}
use Rattle.shelf.specs.Lists.{every}
use Rattle.shelf.specs.Agrees.{index_fits}
use Rattle.shelf.specs.Fits.{same_type, fits, parts_fit, place_type, fields_fit, arguments_fit}
use Rattle.bytes_struct.specs.FindField.{field_type_of}

-- (T), the typing of a tracked value's parts: the same as a statement
pub record Whole (τ : Types) (t : Option TypeId) (xs : List Value) : Type 0 where
  pub sized : part_count (row_of τ t) ≡ some (length xs)
  pub each : (k : ℕ) (x : Value) → get_elem? xs k ≡ some x → T (fits τ x (part_type (row_of τ t) k))

-- the place of an aggregate base ends at the type that is named
abbrev pub leads_to : Types → Place → TypeId → B.Bool
leads_to τ p t = same_type (place_type τ (recorded_type τ p.base) p.projections) (some t)

-- "a build, insert, extract, assign, .., load, store or call names types, counts, fields or tuple indices other than the
-- recorded types have", and "its value is Integer, Felt or U32" of a Load's Index: the part of reason 1 that the runs need
unfoldable pub typed : Types → InstructionKind → B.Bool
typed τ (Assign d x t) = same_type (recorded_type τ d) (some t) && fits τ x (some t)
typed τ (UnaryOp op d x) = true
typed τ (BinaryOp op d x y) = true
typed τ (Call ds f xs ps rs) = arguments_fit τ xs ps
typed τ (Cast d x t u) = true
typed τ (Load d p t) = is_pointer (value_row τ p.base) || (same_type (recorded_type τ d) (some t) && (leads_to τ p t && every (index_fits τ) p.projections))
typed τ (Store p x t) = fits τ x (some t) && (is_pointer (value_row τ p.base) || (is_aggregate (value_row τ p.base) && leads_to τ p t))
typed τ (Debug m xs) = true
typed τ Nop = true
typed τ (Phi d t ss) = true
typed τ (MakeTuple d xs) = is_tuple (value_row τ d) && parts_fit τ (recorded_type τ d) xs
typed τ (ExtractTupleElement d x k t) =
    same_type (recorded_type τ d) (some t) && (is_tuple (operand_row τ x) && same_type (part_type (operand_row τ x) k) (some t))
typed τ (MakeStruct d fs t) =
    same_type (recorded_type τ d) (some t)
    && (is_struct (row_of τ (some t))
    && (eqb (length fs) (length (struct_fields_of (row_of τ (some t)))) && fields_fit τ fs (struct_fields_of (row_of τ (some t)))))
typed τ (ExtractStructField d x n t) = same_type (recorded_type τ d) (some t) && same_type (field_type_of (operand_row τ x) n) (some t)
typed τ (InsertField d x n y t) = same_type (recorded_type τ d) (some t) && (fits τ x (some t) && fits τ y (field_type_of (row_of τ (some t)) n))
typed τ (InsertTuple d x k y t) =
    same_type (recorded_type τ d) (some t) && (fits τ x (some t) && (is_tuple (row_of τ (some t)) && fits τ y (part_type (row_of τ (some t)) k)))
typed τ (MakeFixedArray d xs t c) = is_array (value_row τ d) && (same_type (part_type (value_row τ d) 0) (some t) && parts_fit τ (recorded_type τ d) xs)
typed τ (AssertEq x y) = true
typed τ (HeapAllocCells d x) = true

-- (T) of all that is tracked
abbrev pub TypedStates : Types → AggStates → Type 0
TypedStates τ S = (v : ValueId) (xs : List Value) → S v.0 ≡ some xs → Whole τ (recorded_type τ v) xs

-- what is tracked behind instructions of a block
unfoldable pub states_after : Settings → Types → (ValueId → B.Bool) → AggStates → ℕ → List Instruction → AggStates
states_after σ τ φ S n [] = S
states_after σ τ φ S n (i ∷ is) = let p = step σ τ φ S n i in states_after σ τ φ p.states (n + length p.fresh) is
