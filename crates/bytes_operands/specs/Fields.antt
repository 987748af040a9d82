-- The fields of an instruction that lookups find: operand fields, elements of lists, projections.
use Rattle.std.specs.Prelude.{ℕ, zero, suc, ◌+◌, ◌*◌, eqb, ◌≡◌, List, [], ◌∷◌, Bool, true, false, cond, get_or, drop}
use Rattle.bytes_wire.specs.Parse.{ok}
use Rattle.bytes_wire.specs.Value.{value_of}
use Rattle.mir.specs.declared.Value.{Value}
use Rattle.mir.specs.declared.Projection.{Projection}
use Rattle.mir.specs.Syntax.{InstructionKind}
use Rattle.mir.specs.Syntax.{Assign, UnaryOp, BinaryOp, Call, Cast, Load, Store, Debug, Nop, Phi}
use Rattle.mir.specs.Syntax.{MakeTuple, ExtractTupleElement, MakeStruct, ExtractStructField, InsertField, InsertTuple, MakeFixedArray, AssertEq, HeapAllocCells}
use Rattle.mir.specs.Reads.{init_values, source_values}
use Rattle.bytes_field.specs.Decode.{bit}
use Rattle.bytes_operands.specs.declared.Operands.{Operands}

-- an instruction's operand fields: its values, lists and places aside
abbrev pub operand_fields : InstructionKind → List Value
operand_fields (Assign d x t) = x ∷ []
operand_fields (UnaryOp op d x) = x ∷ []
operand_fields (BinaryOp op d x y) = x ∷ y ∷ []
operand_fields (Call ds f xs ps rs) = []
operand_fields (Cast d x t u) = x ∷ []
operand_fields (Load d p t) = []
operand_fields (Store p x t) = x ∷ []
operand_fields (Debug m xs) = []
operand_fields Nop = []
operand_fields (Phi d t ss) = []
operand_fields (MakeTuple d xs) = []
operand_fields (ExtractTupleElement d x k t) = x ∷ []
operand_fields (MakeStruct d fs t) = []
operand_fields (ExtractStructField d x n t) = x ∷ []
operand_fields (InsertField d x n y t) = x ∷ y ∷ []
operand_fields (InsertTuple d x k y t) = x ∷ y ∷ []
operand_fields (MakeFixedArray d xs t c) = []
operand_fields (AssertEq x y) = x ∷ y ∷ []
operand_fields (HeapAllocCells d x) = x ∷ []

-- the values of an instruction's list: a Call's arguments, a Debug's values, a build's parts, a Phi's sources
abbrev pub list_values : InstructionKind → List Value
list_values (Assign d x t) = []
list_values (UnaryOp op d x) = []
list_values (BinaryOp op d x y) = []
list_values (Call ds f xs ps rs) = xs
list_values (Cast d x t u) = []
list_values (Load d p t) = []
list_values (Store p x t) = []
list_values (Debug m xs) = xs
list_values Nop = []
list_values (Phi d t ss) = source_values ss
list_values (MakeTuple d xs) = xs
list_values (ExtractTupleElement d x k t) = []
list_values (MakeStruct d fs t) = init_values fs
list_values (ExtractStructField d x n t) = []
list_values (InsertField d x n y t) = []
list_values (InsertTuple d x k y t) = []
list_values (MakeFixedArray d xs t c) = xs
list_values (AssertEq x y) = []
list_values (HeapAllocCells d x) = []

-- the projections of a Load's or Store's place
abbrev pub place_steps : InstructionKind → List Projection
place_steps (Assign d x t) = []
place_steps (UnaryOp op d x) = []
place_steps (BinaryOp op d x y) = []
place_steps (Call ds f xs ps rs) = []
place_steps (Cast d x t u) = []
place_steps (Load d p t) = p.projections
place_steps (Store p x t) = p.projections
place_steps (Debug m xs) = []
place_steps Nop = []
place_steps (Phi d t ss) = []
place_steps (MakeTuple d xs) = []
place_steps (ExtractTupleElement d x k t) = []
place_steps (MakeStruct d fs t) = []
place_steps (ExtractStructField d x n t) = []
place_steps (InsertField d x n y t) = []
place_steps (InsertTuple d x k y t) = []
place_steps (MakeFixedArray d xs t c) = []
place_steps (AssertEq x y) = []
place_steps (HeapAllocCells d x) = []

-- where the kind's fields begin: behind the bit map, the kind, and what the bits say stands beside it
abbrev pub meta_size : ℕ → ℕ
meta_size bits = cond (bit 0 bits) 8 0 + (cond (bit 1 bits) 12 0 + cond (bit 2 bits) 4 0)

abbrev pub fields_place : List ℕ → ℕ
fields_place s = 2 + meta_size (get_or s 0 0)

-- a value stands at a place
pub data ValueAt (next : ℕ) (s : List ℕ) (at : ℕ) (x : Value) : Type 0 where
  stands : (n : ℕ) → value_of next (drop at s) ≡ ok x n → ValueAt next s at x

-- how many bytes a value takes, by its kind
abbrev pub value_size : ℕ → ℕ
value_size kind = get_or (5 ∷ 2 ∷ 1 ∷ 3 ∷ 1 ∷ []) kind 1

-- the place behind the value at a place, and behind the projection at a place
abbrev pub value_end : List ℕ → ℕ → ℕ
value_end t at = at + value_size (get_or t at 0)

abbrev pub projection_end : List ℕ → ℕ → ℕ
projection_end t at = get_or (value_end t (at + 1) ∷ (at + 3) ∷ []) (get_or t at 0) (at + 5)

-- the place behind k things, where `end` gives the place behind the thing at a place
unfoldable pub after : (ℕ → ℕ) → ℕ → ℕ → ℕ
after end zero at = at
after end (suc k) at = after end k (end at)

-- behind a value with some bytes before it and some behind it
abbrev pub value_step : List ℕ → ℕ → ℕ → ℕ → ℕ
value_step t before gap at = value_end t (at + before) + gap

-- Where the fields of each kind stand. Nothing here is believed: the laws of proofs/EachKind.antt tie each row to the decoder
-- of its kind.
-- Of the operand fields: how many, where the first stands, and how far behind it the second.
abbrev ops : ℕ → ℕ → ℕ → Operands
ops many first gap = record { count = many; first = first; apart = gap }

abbrev pub operand_table : List Operands
operand_table =
    ops 1 2 0 ∷ ops 1 3 0 ∷ ops 2 3 0 ∷ ops 0 0 0 ∷ ops 1 2 0 ∷ ops 0 0 0 ∷ ops 1 0 0 ∷ ops 0 0 0 ∷ ops 0 0 0 ∷ ops 0 0 0
    ∷ ops 0 0 0 ∷ ops 1 2 0 ∷ ops 0 0 0 ∷ ops 1 2 0 ∷ ops 2 2 2 ∷ ops 2 2 4 ∷ ops 0 0 0 ∷ ops 2 0 0 ∷ ops 1 2 0 ∷ []

abbrev pub operand_row : ℕ → Operands
operand_row kind = get_or operand_table kind (ops 0 0 0)

-- of the list of values: whether there is one, where its count stands, and how many bytes stand before each value
pub record ListPlace : Type 0 where
  pub listed : Bool
  pub count : ℕ
  pub before : ℕ

abbrev lst : Bool → ℕ → ℕ → ListPlace
lst listed count before = record { listed = listed; count = count; before = before }

abbrev pub list_table : List ListPlace
list_table =
    lst false 0 0 ∷ lst false 0 0 ∷ lst false 0 0 ∷ lst true 0 0 ∷ lst false 0 0 ∷ lst false 0 0 ∷ lst false 0 0
    ∷ lst true 4 0 ∷ lst false 0 0 ∷ lst true 4 2 ∷ lst true 2 0 ∷ lst false 0 0 ∷ lst true 2 2 ∷ lst false 0 0
    ∷ lst false 0 0 ∷ lst false 0 0 ∷ lst true 2 0 ∷ lst false 0 0 ∷ lst false 0 0 ∷ []

abbrev pub list_row : ℕ → ListPlace
list_row kind = get_or list_table kind (lst false 0 0)

-- a Store's operand stands behind its place, and a Call's list behind its dests
abbrev pub operand_first : List ℕ → ℕ → ℕ
operand_first t kind = cond (eqb kind 6) (after (projection_end t) (get_or t 2 0) 3) (operand_row kind).first

abbrev pub list_at : List ℕ → ℕ → ℕ
list_at t kind = cond (eqb kind 3) (1 + 2 * get_or t 0 0 + 2) (list_row kind).count

abbrev pub list_count : List ℕ → ℕ → ℕ
list_count t kind = cond (list_row kind).listed (get_or t (list_at t kind) 0) 0

-- the count of the projections: a Load's behind its dest and its base, a Store's behind its base
abbrev pub steps_at : ℕ → ℕ
steps_at kind = cond (eqb kind 5) 4 2

abbrev pub step_count : List ℕ → ℕ → ℕ
step_count t kind = cond (eqb kind 5) (get_or t 4 0) (cond (eqb kind 6) (get_or t 2 0) 0)
