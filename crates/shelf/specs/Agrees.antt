-- Shelf reason 1, "Types disagree", as a test for each kind that passes where they agree. "A value read or defined .. lacks a
-- recorded type, or Error stands as a value" is a test of its own for Debug and Return alone: what fits a type or is a scalar
-- has a recorded type or is a literal, and so do the dests (proofs/Recorded.antt).
use Rattle.std.proofs.Math.Option.{Option, none, some}
use Rattle.std.specs.Prelude.{List, [], ◌∷◌, true, false, cond, not, ◌&&◌, eqb, length}
use Rattle.std.proofs.Math.Bool as B
use Rattle.mir.specs.declared.ValueId.{ValueId}
use Rattle.mir.specs.declared.TypeId.{TypeId}
use Rattle.mir.specs.declared.Value.{Value}
use Rattle.mir.specs.MirType.{MirType, Felt, Bool, U32, Tuple, Struct, FixedArray, Pointer, Function, Unit, Error, Unknown}
use Rattle.mir.specs.declared.Projection.{Projection}
use Rattle.mir.specs.declared.Projection.TheVariants.{Index, Field}
use Rattle.mir.specs.Syntax.{Place, InstructionKind, Assign, UnaryOp, BinaryOp, Call, Cast, Load, Store, Debug, Nop, Phi}
use Rattle.mir.specs.Syntax.{MakeTuple, ExtractTupleElement, MakeStruct, ExtractStructField, InsertField, InsertTuple, MakeFixedArray, AssertEq, HeapAllocCells}
use Rattle.mir.specs.Syntax.{Terminator, Jump, If, BranchCmp, Return, Unreachable, Block}
use Rattle.mir.specs.Reads.{counted}
use Rattle.mir.specs.Lookup.{Types, row_of, recorded_type, value_row, is_tuple, is_struct, is_array, is_aggregate, struct_fields_of, is_some}
use Rattle.shelf.specs.Lists.{every}
use Rattle.mir.specs.Parts.{part_type, operand_row}
use Rattle.shelf.specs.Fits.{literal_kind, scalar_kind, same_type, fits, parts_fit, place_type, fields_fit, arguments_fit}
use Rattle.bytes_struct.specs.FindField.{field_type_of}

-- a value with a recorded type, or a literal
unfoldable pub is_known : Types → Value → B.Bool
is_known τ (Value.Literal l) = true
is_known τ (Value.Operand v) = is_some (recorded_type τ v)
is_known τ Value.Error = false

-- "scalars (all but aggregates)"
unfoldable pub is_scalar_type : Types → Option TypeId → B.Bool
is_scalar_type τ none = false
is_scalar_type τ (some t) = not (is_aggregate (row_of τ (some t)))

-- a literal, or an operand recorded so
unfoldable pub is_scalar : Types → Value → B.Bool
is_scalar τ (Value.Literal l) = true
is_scalar τ (Value.Operand v) = is_scalar_type τ (recorded_type τ v)
is_scalar τ Value.Error = false

-- an Index's "value is Integer, Felt or U32"
unfoldable pub is_index : Types → Value → B.Bool
is_index τ (Value.Literal l) = eqb (literal_kind l) 1
is_index τ (Value.Operand v) = eqb (scalar_kind (value_row τ v)) 1
is_index τ Value.Error = false

unfoldable pub index_fits : Types → Projection → B.Bool
index_fits τ (Index x) = is_index τ x
index_fits τ (Field n) = true
index_fits τ (Projection.Tuple k) = true

-- the type that a Pointer points to
unfoldable pub pointee : Option MirType → Option TypeId
pointee none = none
pointee (some Felt) = none
pointee (some Bool) = none
pointee (some U32) = none
pointee (some (Tuple ts)) = none
pointee (some (Struct n fs)) = none
pointee (some (FixedArray t size)) = none
pointee (some (Pointer t)) = some t
pointee (some (Function ps r)) = none
pointee (some Unit) = none
pointee (some Error) = none
pointee (some Unknown) = none

-- "a Pointer whose first step is Index"; behind it, what it points to is walked
unfoldable pub pointed : Types → Option TypeId → List Projection → Option TypeId
pointed τ t [] = none
pointed τ t (Index x ∷ ps) = place_type τ t ps
pointed τ t (Field n ∷ ps) = none
pointed τ t (Projection.Tuple k ∷ ps) = none

-- "A Load's or Store's base is an aggregate, or a Pointer": the type at the end of its place
unfoldable pub reached : Types → Place → Option TypeId
reached τ p =
    cond (is_aggregate (value_row τ p.base))
    (place_type τ (recorded_type τ p.base) p.projections)
    (pointed τ (pointee (value_row τ p.base)) p.projections)

-- a Load's or Store's place: it ends at the type that is named, and each Index has a value that can be one
unfoldable pub place_fits : Types → Place → TypeId → B.Bool
place_fits τ p t = same_type (reached τ p) (some t) && every (index_fits τ) p.projections

-- a Call's dests at its return types
unfoldable pub dests_fit : Types → List ValueId → List TypeId → B.Bool
dests_fit τ [] [] = true
dests_fit τ [] (t ∷ ts) = false
dests_fit τ (d ∷ ds) [] = false
dests_fit τ (d ∷ ds) (t ∷ ts) = same_type (recorded_type τ d) (some t) && dests_fit τ ds ts

-- "AssertEq equal types"
unfoldable pub equal_types : Types → Value → Value → B.Bool
equal_types τ (Value.Literal l) (Value.Literal m) = eqb (literal_kind l) (literal_kind m)
equal_types τ (Value.Literal l) (Value.Operand w) = fits τ (Value.Literal l) (recorded_type τ w)
equal_types τ (Value.Literal l) Value.Error = false
equal_types τ (Value.Operand v) (Value.Literal m) = fits τ (Value.Literal m) (recorded_type τ v)
equal_types τ (Value.Operand v) (Value.Operand w) = same_type (recorded_type τ v) (recorded_type τ w)
equal_types τ (Value.Operand v) Value.Error = false
equal_types τ Value.Error y = false

-- "a build, insert, extract, assign, phi, load, store or call names types, counts, fields or tuple indices" as "the recorded
-- types have"; "Operations, BranchCmp, casts and allocations take and give scalars"; Debug's values are known
unfoldable pub agrees : Types → InstructionKind → B.Bool
agrees τ (Assign d x t) = same_type (recorded_type τ d) (some t) && fits τ x (some t)
agrees τ (UnaryOp op d x) = is_scalar_type τ (recorded_type τ d) && is_scalar τ x
agrees τ (BinaryOp op d x y) = is_scalar_type τ (recorded_type τ d) && (is_scalar τ x && is_scalar τ y)
agrees τ (Call ds f xs ps rs) = arguments_fit τ xs ps && dests_fit τ ds rs
agrees τ (Cast d x t u) = is_scalar_type τ (recorded_type τ d) && is_scalar τ x
agrees τ (Load d p t) = same_type (recorded_type τ d) (some t) && place_fits τ p t
agrees τ (Store p x t) = fits τ x (some t) && place_fits τ p t
agrees τ (Debug m xs) = every (is_known τ) xs
agrees τ Nop = true
agrees τ (Phi d t ss) = same_type (recorded_type τ d) (some t) && every (λ s. fits τ s.value (some t)) ss
agrees τ (MakeTuple d xs) = is_tuple (value_row τ d) && parts_fit τ (recorded_type τ d) xs
agrees τ (ExtractTupleElement d x k t) =
    same_type (recorded_type τ d) (some t)
    && (is_tuple (operand_row τ x) && same_type (part_type (operand_row τ x) k) (some t))
agrees τ (MakeStruct d fs t) =
    same_type (recorded_type τ d) (some t)
    && (is_struct (row_of τ (some t))
    && (eqb (length fs) (length (struct_fields_of (row_of τ (some t)))) && fields_fit τ fs (struct_fields_of (row_of τ (some t)))))
agrees τ (ExtractStructField d x n t) = same_type (recorded_type τ d) (some t) && same_type (field_type_of (operand_row τ x) n) (some t)
agrees τ (InsertField d x n y t) = same_type (recorded_type τ d) (some t) && (fits τ x (some t) && fits τ y (field_type_of (row_of τ (some t)) n))
agrees τ (InsertTuple d x k y t) =
    same_type (recorded_type τ d) (some t) && (fits τ x (some t) && (is_tuple (row_of τ (some t)) && fits τ y (part_type (row_of τ (some t)) k)))
agrees τ (MakeFixedArray d xs t c) = is_array (value_row τ d) && (same_type (part_type (value_row τ d) 0) (some t) && parts_fit τ (recorded_type τ d) xs)
agrees τ (AssertEq x y) = equal_types τ x y
agrees τ (HeapAllocCells d x) = is_scalar_type τ (recorded_type τ d) && is_scalar τ x

-- "If a Bool"
unfoldable pub is_condition : Types → Value → B.Bool
is_condition τ (Value.Literal l) = eqb (literal_kind l) 2
is_condition τ (Value.Operand v) = eqb (scalar_kind (value_row τ v)) 2
is_condition τ Value.Error = false

-- the same of a terminator: BranchCmp takes scalars, "If a Bool"; Return's values are known
unfoldable pub end_agrees : Types → Terminator → B.Bool
end_agrees τ (Jump b) = true
end_agrees τ (If x a b) = is_condition τ x
end_agrees τ (BranchCmp op x y a b) = is_scalar τ x && is_scalar τ y
end_agrees τ (Return xs) = every (is_known τ) xs
end_agrees τ Unreachable = true

-- the same of an instruction that counts, Debug only under the flag
unfoldable pub counted_agrees : B.Bool → Types → InstructionKind → B.Bool
counted_agrees debug τ i = cond (counted debug i) (agrees τ i) true

-- and of a block
unfoldable pub block_agrees : B.Bool → Types → Block → B.Bool
block_agrees debug τ k = every (λ i. counted_agrees debug τ i.kind) k.instructions && end_agrees τ k.terminator
