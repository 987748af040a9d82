-- An instruction's bytes in order: those that stay, and the values that are read. A value that is replaced is an operand, and an
-- operand stands for it: its number's two bytes are written over, and the others stay as they are.
use Rattle.std.specs.Prelude.{ℕ, ◌+◌, ◌<◌, ◌≡◌, List, [], ◌∷◌, ◌++◌, cond, eqb, true, length, get_or, drop, is_some}
use Rattle.std.proofs.lemmas.List.Edits.{sets}
use Rattle.bytes_wire.specs.Number.{to_bytes}
use Rattle.bytes_wire.specs.Value.{value_bytes}
use Rattle.mir.specs.declared.Value.{Value}
use Rattle.mir.specs.declared.ValueId.{ValueId}
use Rattle.mir.specs.declared.Projection.{Projection}
use Rattle.mir.specs.declared.Projection.TheVariants.{Index, Field, Tuple}
use Rattle.mir.specs.Operand.{operand_of}
use Rattle.mir.specs.Syntax.{FieldInit, InstructionKind, Instruction}
use Rattle.mir.specs.Syntax.{Assign, UnaryOp, BinaryOp, Call, Cast, Load, Store, Debug, Nop, Phi}
use Rattle.mir.specs.Syntax.{MakeTuple, ExtractTupleElement, MakeStruct, ExtractStructField, InsertField, InsertTuple, MakeFixedArray, AssertEq, HeapAllocCells}
use Rattle.mir.specs.Reads.{kind_number}
use Rattle.bytes_field.specs.Encode.{value_id_bytes, type_id_bytes, name_id_bytes, list_bytes, projection_bytes, field_bytes, meta_bytes, bit_map}
use Rattle.rewrite.specs.Readings.{readings, with_readings}

-- bytes that stay, a value that is read, and a Load's base: its number with no kind byte before it
pub data Chunk : Type 0 where
  stays : List ℕ → Chunk
  valued : Value → Chunk
  based : ValueId → Chunk

abbrev pub chunk_bytes : Chunk → List ℕ
chunk_bytes (stays w) = w
chunk_bytes (valued x) = value_bytes x
chunk_bytes (based v) = value_id_bytes v

-- values, inits and projections in front of others
unfoldable pub value_chunks : List Value → List Chunk → List Chunk
value_chunks [] l = l
value_chunks (x ∷ xs) l = valued x ∷ value_chunks xs l

unfoldable pub init_chunks : List FieldInit → List Chunk → List Chunk
init_chunks [] l = l
init_chunks (f ∷ fs) l = stays (name_id_bytes f.name) ∷ valued f.value ∷ init_chunks fs l

unfoldable pub step_chunks : List Projection → List Chunk → List Chunk
step_chunks [] l = l
step_chunks (Index x ∷ ps) l = stays (0 ∷ []) ∷ valued x ∷ step_chunks ps l
step_chunks (Field n ∷ ps) l = stays (projection_bytes (Field n)) ∷ step_chunks ps l
step_chunks (Tuple k ∷ ps) l = stays (projection_bytes (Tuple k)) ∷ step_chunks ps l

-- the fields of each kind. Nothing here is believed: the laws of proofs/EachKind.antt tie each line to the kind's bytes and readings
unfoldable pub field_chunks : InstructionKind → List Chunk
field_chunks (Assign d x t) = stays (value_id_bytes d) ∷ valued x ∷ stays (type_id_bytes t) ∷ []
field_chunks (UnaryOp op d x) = stays (op ∷ value_id_bytes d) ∷ valued x ∷ []
field_chunks (BinaryOp op d x y) = stays (op ∷ value_id_bytes d) ∷ valued x ∷ valued y ∷ []
field_chunks (Call ds f xs ps rs) =
    stays (list_bytes value_id_bytes ds ++ (to_bytes 2 f ++ (length xs ∷ [])))
    ∷ value_chunks xs (stays (list_bytes type_id_bytes ps ++ list_bytes type_id_bytes rs) ∷ [])
field_chunks (Cast d x t u) = stays (value_id_bytes d) ∷ valued x ∷ stays (type_id_bytes t ++ type_id_bytes u) ∷ []
field_chunks (Load d p t) =
    stays (value_id_bytes d) ∷ based p.base ∷ stays (length p.projections ∷ []) ∷ step_chunks p.projections (stays (type_id_bytes t) ∷ [])
field_chunks (Store p x t) =
    stays (value_id_bytes p.base ++ (length p.projections ∷ [])) ∷ step_chunks p.projections (valued x ∷ stays (type_id_bytes t) ∷ [])
field_chunks (Debug m xs) = stays (to_bytes 4 m ++ (length xs ∷ [])) ∷ value_chunks xs []
field_chunks Nop = []
field_chunks (Phi d t ss) = stays (field_bytes (Phi d t ss)) ∷ []
field_chunks (MakeTuple d xs) = stays (value_id_bytes d ++ (length xs ∷ [])) ∷ value_chunks xs []
field_chunks (ExtractTupleElement d x k t) = stays (value_id_bytes d) ∷ valued x ∷ stays (to_bytes 4 k ++ type_id_bytes t) ∷ []
field_chunks (MakeStruct d fs t) = stays (value_id_bytes d ++ (length fs ∷ [])) ∷ init_chunks fs (stays (type_id_bytes t) ∷ [])
field_chunks (ExtractStructField d x n t) = stays (value_id_bytes d) ∷ valued x ∷ stays (name_id_bytes n ++ type_id_bytes t) ∷ []
field_chunks (InsertField d x n y t) = stays (value_id_bytes d) ∷ valued x ∷ stays (name_id_bytes n) ∷ valued y ∷ stays (type_id_bytes t) ∷ []
field_chunks (InsertTuple d x k y t) = stays (value_id_bytes d) ∷ valued x ∷ stays (to_bytes 4 k) ∷ valued y ∷ stays (type_id_bytes t) ∷ []
field_chunks (MakeFixedArray d xs t c) = stays (value_id_bytes d ++ (length xs ∷ [])) ∷ value_chunks xs (stays (type_id_bytes t) ∷ [])
field_chunks (AssertEq x y) = valued x ∷ valued y ∷ []
field_chunks (HeapAllocCells d x) = stays (value_id_bytes d) ∷ valued x ∷ []

-- an instruction
unfoldable pub chunks : Instruction → List Chunk
chunks i = stays (bit_map i ∷ kind_number i.kind ∷ meta_bytes i.meta) ∷ field_chunks i.kind

-- where the number of each reading stands if it is an operand, the chunks beginning at a place: behind its kind byte, or for a base
-- where it begins
unfoldable pub number_places : ℕ → List Chunk → List ℕ
number_places at [] = []
number_places at (stays w ∷ l) = number_places (at + length w) l
number_places at (valued x ∷ l) = (at + 1) ∷ number_places (at + length (value_bytes x)) l
number_places at (based v ∷ l) = at ∷ number_places (at + 2) l

-- within the bytes of an instruction
abbrev pub reading_places : Instruction → List ℕ
reading_places i = number_places 0 (chunks i)

-- a number is written at a place; no fresh number is 0, which stands for none
abbrev pub put_number : List ℕ → ℕ → ℕ → List ℕ
put_number s at n = cond (eqb n 0) s (sets s at (to_bytes 2 n))

-- numbers are written at places, past their end none
unfoldable pub patched : List ℕ → List ℕ → List ℕ → List ℕ
patched s [] ns = s
patched s (p ∷ ps) ns = patched (put_number s p (get_or ns 0 0)) ps (drop 1 ns)

-- the values with fresh numbers in place of some
abbrev pub or_number : Value → ℕ → Value
or_number x n = cond (eqb n 0) x (Value.Operand (record { 0 = n }))

unfoldable pub numbered : List Value → List ℕ → List Value
numbered [] ns = []
numbered (x ∷ xs) ns = or_number x (get_or ns 0 0) ∷ numbered xs (drop 1 ns)

-- the instruction with fresh numbers in place of some of its readings
abbrev pub with_numbers : Instruction → List ℕ → Instruction
with_numbers i ns = record { meta = i.meta; kind = with_readings i.kind (numbered (readings i.kind) ns) }

-- where there is a number, an operand is replaced
abbrev pub Replaces : List Value → List ℕ → Type 0
Replaces xs ns = (j : ℕ) → j < length xs → (get_or ns j 0 ≡ 0 → ⊥) → is_some (operand_of (get_or xs j Value.Error)) ≡ true
