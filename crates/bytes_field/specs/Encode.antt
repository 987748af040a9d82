-- The bytes of instructions and terminators: each field behind the one before.
use Rattle.std.specs.Prelude.{ℕ, ◌+◌, ◌*◌, List, [], ◌∷◌, ◌++◌, length}
use Rattle.std.proofs.Math.Option.{Option, none, some}
use Rattle.bytes_wire.specs.Number.{to_bytes}
use Rattle.bytes_wire.specs.Value.{value_bytes, bool_byte}
use Rattle.mir.specs.declared.ValueId.{ValueId}
use Rattle.mir.specs.declared.BlockId.{BlockId}
use Rattle.mir.specs.declared.TypeId.{TypeId}
use Rattle.mir.specs.declared.NameId.{NameId}
use Rattle.mir.specs.declared.Projection.{Projection}
use Rattle.mir.specs.declared.Projection.TheVariants.{Index, Field, Tuple}
use Rattle.mir.specs.Syntax.{Place, Source, FieldInit, Span, ExpressionId, Meta, InstructionKind, Instruction, Terminator}
use Rattle.mir.specs.Syntax.{Assign, UnaryOp, BinaryOp, Call, Cast, Load, Store, Debug, Nop, Phi}
use Rattle.mir.specs.Syntax.{MakeTuple, ExtractTupleElement, MakeStruct, ExtractStructField, InsertField, InsertTuple, MakeFixedArray, AssertEq, HeapAllocCells}
use Rattle.mir.specs.Syntax.{Jump, If, BranchCmp, Return, Unreachable}
use Rattle.mir.specs.Reads.{kind_number}

abbrev pub value_id_bytes : ValueId → List ℕ
value_id_bytes v = to_bytes 2 v.0

abbrev pub block_id_bytes : BlockId → List ℕ
block_id_bytes b = to_bytes 2 b.0

abbrev pub type_id_bytes : TypeId → List ℕ
type_id_bytes t = to_bytes 2 t.0

abbrev pub name_id_bytes : NameId → List ℕ
name_id_bytes n = to_bytes 2 n.0

-- the bytes of things that stand one after another
abbrev pub each_bytes : {A : Type 0} → (A → List ℕ) → List A → List ℕ
each_bytes enc [] = []
each_bytes enc (a ∷ xs) = enc a ++ each_bytes enc xs

-- "lists u8 count first"
abbrev pub list_bytes : {A : Type 0} → (A → List ℕ) → List A → List ℕ
list_bytes enc xs = length xs ∷ each_bytes enc xs

abbrev pub projection_bytes : Projection → List ℕ
projection_bytes (Index x) = 0 ∷ value_bytes x
projection_bytes (Field n) = 1 ∷ name_id_bytes n
projection_bytes (Tuple k) = 2 ∷ to_bytes 4 k

abbrev pub place_bytes : Place → List ℕ
place_bytes p = value_id_bytes p.base ++ list_bytes projection_bytes p.projections

abbrev pub source_bytes : Source → List ℕ
source_bytes s = block_id_bytes s.block ++ value_bytes s.value

abbrev pub field_init_bytes : FieldInit → List ℕ
field_init_bytes f = name_id_bytes f.name ++ value_bytes f.value

-- the fields of each kind, as declared
unfoldable pub field_bytes : InstructionKind → List ℕ
field_bytes (Assign d x t) = value_id_bytes d ++ (value_bytes x ++ type_id_bytes t)
field_bytes (UnaryOp op d x) = op ∷ (value_id_bytes d ++ value_bytes x)
field_bytes (BinaryOp op d x y) = op ∷ (value_id_bytes d ++ (value_bytes x ++ value_bytes y))
field_bytes (Call ds f xs ps rs) =
    list_bytes value_id_bytes ds ++ (to_bytes 2 f ++ (list_bytes value_bytes xs ++ (list_bytes type_id_bytes ps ++ list_bytes type_id_bytes rs)))
field_bytes (Cast d x t u) = value_id_bytes d ++ (value_bytes x ++ (type_id_bytes t ++ type_id_bytes u))
field_bytes (Load d p t) = value_id_bytes d ++ (place_bytes p ++ type_id_bytes t)
field_bytes (Store p x t) = place_bytes p ++ (value_bytes x ++ type_id_bytes t)
field_bytes (Debug m xs) = to_bytes 4 m ++ list_bytes value_bytes xs
field_bytes Nop = []
field_bytes (Phi d t ss) = value_id_bytes d ++ (type_id_bytes t ++ list_bytes source_bytes ss)
field_bytes (MakeTuple d xs) = value_id_bytes d ++ list_bytes value_bytes xs
field_bytes (ExtractTupleElement d x k t) = value_id_bytes d ++ (value_bytes x ++ (to_bytes 4 k ++ type_id_bytes t))
field_bytes (MakeStruct d fs t) = value_id_bytes d ++ (list_bytes field_init_bytes fs ++ type_id_bytes t)
field_bytes (ExtractStructField d x n t) = value_id_bytes d ++ (value_bytes x ++ (name_id_bytes n ++ type_id_bytes t))
field_bytes (InsertField d x n y t) = value_id_bytes d ++ (value_bytes x ++ (name_id_bytes n ++ (value_bytes y ++ type_id_bytes t)))
field_bytes (InsertTuple d x k y t) = value_id_bytes d ++ (value_bytes x ++ (to_bytes 4 k ++ (value_bytes y ++ type_id_bytes t)))
field_bytes (MakeFixedArray d xs t c) = value_id_bytes d ++ (list_bytes value_bytes xs ++ type_id_bytes t)
field_bytes (AssertEq x y) = value_bytes x ++ value_bytes y
field_bytes (HeapAllocCells d x) = value_id_bytes d ++ value_bytes x

-- what stands beside the kind, and its bits
abbrev pub span_bytes : Span → List ℕ
span_bytes p = to_bytes 4 p.start ++ to_bytes 4 p.stop

abbrev pub expression_bytes : ExpressionId → List ℕ
expression_bytes e = to_bytes 4 e.index ++ to_bytes 8 e.file

abbrev pub option_bytes : {A : Type 0} → (A → List ℕ) → Option A → List ℕ
option_bytes enc none = []
option_bytes enc (some a) = enc a

abbrev pub meta_bytes : Meta → List ℕ
meta_bytes m = option_bytes span_bytes m.span ++ (option_bytes expression_bytes m.expression ++ option_bytes (to_bytes 4) m.comment)

abbrev pub stands : {A : Type 0} → Option A → ℕ
stands none = 0
stands (some a) = 1

abbrev pub const_bit : InstructionKind → ℕ
const_bit (Assign d x t) = 0
const_bit (UnaryOp op d x) = 0
const_bit (BinaryOp op d x y) = 0
const_bit (Call ds f xs ps rs) = 0
const_bit (Cast d x t u) = 0
const_bit (Load d p t) = 0
const_bit (Store p x t) = 0
const_bit (Debug m xs) = 0
const_bit Nop = 0
const_bit (Phi d t ss) = 0
const_bit (MakeTuple d xs) = 0
const_bit (ExtractTupleElement d x k t) = 0
const_bit (MakeStruct d fs t) = 0
const_bit (ExtractStructField d x n t) = 0
const_bit (InsertField d x n y t) = 0
const_bit (InsertTuple d x k y t) = 0
const_bit (MakeFixedArray d xs t c) = bool_byte c
const_bit (AssertEq x y) = 0
const_bit (HeapAllocCells d x) = 0

abbrev pub bit_map : Instruction → ℕ
bit_map i = stands i.meta.span + 2 * stands i.meta.expression + 4 * stands i.meta.comment + 8 * const_bit i.kind

-- "a u8 bit map, u8 kind, the fields whose bit stands, then the kind's fields as declared"
unfoldable pub instruction_bytes : Instruction → List ℕ
instruction_bytes i = bit_map i ∷ kind_number i.kind ∷ (meta_bytes i.meta ++ field_bytes i.kind)

unfoldable pub terminator_bytes : Terminator → List ℕ
terminator_bytes (Jump p) = 0 ∷ block_id_bytes p
terminator_bytes (If x p q) = 1 ∷ (value_bytes x ++ (block_id_bytes p ++ block_id_bytes q))
terminator_bytes (BranchCmp op x y p q) = 2 ∷ op ∷ (value_bytes x ++ (value_bytes y ++ (block_id_bytes p ++ block_id_bytes q)))
terminator_bytes (Return xs) = 3 ∷ list_bytes value_bytes xs
terminator_bytes Unreachable = 4 ∷ []
