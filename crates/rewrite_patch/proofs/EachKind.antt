-- The chunks of an instruction are its bytes and its readings, and those of an instruction with fresh numbers are its own with them.
use Prim.Native.Nat.{ℕ}
use mathlib.Core.Path.{◌≡◌, refl, ap, ◌∙◌}
use mathlib.Core.List.{List, [], ◌∷◌, ◌++◌, append_assoc, append-nil}
use lib.ListN.{length, get_or, drop}
use Rattle.bytes_wire.specs.Number.{to_bytes}
use Rattle.bytes_wire.specs.Value.{value_bytes}
use Rattle.mir.specs.declared.Value.{Value}
use Rattle.mir.specs.declared.Projection.{Projection}
use Rattle.mir.specs.declared.Projection.TheVariants.{Index, Field, Tuple}
use Rattle.mir.specs.Syntax.{FieldInit, InstructionKind, Instruction}
use Rattle.mir.specs.Syntax.{Assign, UnaryOp, BinaryOp, Call, Cast, Load, Store, Debug, Nop, Phi}
use Rattle.mir.specs.Syntax.{MakeTuple, ExtractTupleElement, MakeStruct, ExtractStructField, InsertField, InsertTuple, MakeFixedArray, AssertEq, HeapAllocCells}
use Rattle.mir.specs.Reads.{indices, init_values}
use Rattle.bytes_field.specs.Encode.{each_bytes, list_bytes, value_id_bytes, type_id_bytes, projection_bytes, field_init_bytes, field_bytes, instruction_bytes}
use Rattle.rewrite.specs.Readings.{readings, base_of}
use Rattle.rewrite_patch.specs.Chunks.{Chunk, stays, valued, based, chunk_bytes, value_chunks, init_chunks, step_chunks, field_chunks, chunks, or_number}

-- the bytes of chunks, and the values that are read
abbrev pub bytes_in : List Chunk → List ℕ
bytes_in l = each_bytes chunk_bytes l

unfoldable pub values_in : List Chunk → List Value
values_in [] = []
values_in (stays w ∷ l) = values_in l
values_in (valued x ∷ l) = x ∷ values_in l
values_in (based v ∷ l) = Value.Operand v ∷ values_in l

-- chunks with fresh numbers
unfoldable pub chunks_with : List Chunk → List ℕ → List Chunk
chunks_with [] ns = []
chunks_with (stays w ∷ l) ns = stays w ∷ chunks_with l ns
chunks_with (valued x ∷ l) ns = valued (or_number x (get_or ns 0 0)) ∷ chunks_with l (drop 1 ns)
chunks_with (based v ∷ l) ns = based (base_of v (or_number (Value.Operand v) (get_or ns 0 0))) ∷ chunks_with l (drop 1 ns)

-- values, inits and projections in front of others
pub values_bytes : (xs : List Value) (l : List Chunk) → bytes_in (value_chunks xs l) ≡ each_bytes value_bytes xs ++ bytes_in l
unfolding value_chunks
values_bytes [] l = refl
values_bytes (x ∷ xs) l = rw (values_bytes xs l, append_assoc) refl

inits_bytes : (fs : List FieldInit) (l : List Chunk) → bytes_in (init_chunks fs l) ≡ each_bytes field_init_bytes fs ++ bytes_in l
unfolding init_chunks
inits_bytes [] l = refl
inits_bytes (f ∷ fs) l = rw (inits_bytes fs l) (simp (append_assoc))

steps_bytes : (ps : List Projection) (l : List Chunk) → bytes_in (step_chunks ps l) ≡ each_bytes projection_bytes ps ++ bytes_in l
unfolding step_chunks
steps_bytes [] l = refl
steps_bytes (Index x ∷ ps) l = rw (steps_bytes ps l) (simp (append_assoc))
steps_bytes (Field n ∷ ps) l = rw (steps_bytes ps l) refl
steps_bytes (Tuple k ∷ ps) l = rw (steps_bytes ps l) refl

-- the same bytes, grouped otherwise
group : (a b : List ℕ) (n : ℕ) (v c : List ℕ) → (a ++ (b ++ (n ∷ []))) ++ (v ++ (c ++ [])) ≡ a ++ (b ++ ((n ∷ v) ++ c))
group a b n v c = simp (append_assoc, append-nil)

-- the bytes of each kind
pub field_layout : (k : InstructionKind) → bytes_in (field_chunks k) ≡ field_bytes k
unfolding field_chunks field_bytes
field_layout (Assign d x t) = refl
field_layout (UnaryOp op d x) = simp (append-nil)
field_layout (BinaryOp op d x y) = simp (append-nil)
field_layout (Call ds f xs ps rs) =
    let a = list_bytes value_id_bytes ds in
    let c = list_bytes type_id_bytes ps ++ list_bytes type_id_bytes rs in
    ap (λ r. (a ++ (to_bytes 2 f ++ (length xs ∷ []))) ++ r) (values_bytes xs (stays c ∷ [])) ∙ group a (to_bytes 2 f) (length xs) (each_bytes value_bytes xs) c
field_layout (Cast d x t u) = refl
field_layout (Load d p t) = rw (steps_bytes p.projections (stays (type_id_bytes t) ∷ [])) refl
field_layout (Store p x t) = rw (steps_bytes p.projections (valued x ∷ stays (type_id_bytes t) ∷ [])) refl
field_layout (Debug m xs) = rw (values_bytes xs []) (simp (append-nil))
field_layout Nop = refl
field_layout (Phi d t ss) = simp (append-nil)
field_layout (MakeTuple d xs) = rw (values_bytes xs []) (simp (append-nil))
field_layout (ExtractTupleElement d x k t) = refl
field_layout (MakeStruct d fs t) = rw (inits_bytes fs (stays (type_id_bytes t) ∷ [])) refl
field_layout (ExtractStructField d x n t) = refl
field_layout (InsertField d x n y t) = refl
field_layout (InsertTuple d x k y t) = refl
field_layout (MakeFixedArray d xs t c) = rw (values_bytes xs (stays (type_id_bytes t) ∷ [])) refl
field_layout (AssertEq x y) = simp (append-nil)
field_layout (HeapAllocCells d x) = simp (append-nil)

-- and of an instruction
pub layout : (i : Instruction) → bytes_in (chunks i) ≡ instruction_bytes i
unfolding chunks instruction_bytes
layout i = rw (field_layout i.kind) refl

-- what is read of values, inits and projections in front of others
pub values_read : (xs : List Value) (l : List Chunk) → values_in (value_chunks xs l) ≡ xs ++ values_in l
unfolding value_chunks values_in
values_read [] l = refl
values_read (x ∷ xs) l = ap (λ r. x ∷ r) (values_read xs l)

inits_read : (fs : List FieldInit) (l : List Chunk) → values_in (init_chunks fs l) ≡ init_values fs ++ values_in l
unfolding init_chunks values_in
inits_read [] l = refl
inits_read (f ∷ fs) l = ap (λ r. f.value ∷ r) (inits_read fs l)

steps_read : (ps : List Projection) (l : List Chunk) → values_in (step_chunks ps l) ≡ indices ps ++ values_in l
unfolding step_chunks values_in
steps_read [] l = refl
steps_read (Index x ∷ ps) l = ap (λ r. x ∷ r) (steps_read ps l)
steps_read (Field n ∷ ps) l = steps_read ps l
steps_read (Tuple k ∷ ps) l = steps_read ps l

-- what each kind reads
pub field_readings : (k : InstructionKind) → values_in (field_chunks k) ≡ readings k
unfolding field_chunks values_in readings
field_readings (Assign d x t) = refl
field_readings (UnaryOp op d x) = refl
field_readings (BinaryOp op d x y) = refl
field_readings (Call ds f xs ps rs) = values_read xs (stays (list_bytes type_id_bytes ps ++ list_bytes type_id_bytes rs) ∷ []) ∙ append-nil xs
field_readings (Cast d x t u) = refl
field_readings (Load d p t) = ap (λ r. Value.Operand p.base ∷ r) (steps_read p.projections (stays (type_id_bytes t) ∷ []) ∙ append-nil (indices p.projections))
field_readings (Store p x t) = steps_read p.projections (valued x ∷ stays (type_id_bytes t) ∷ [])
field_readings (Debug m xs) = values_read xs [] ∙ append-nil xs
field_readings Nop = refl
field_readings (Phi d t ss) = refl
field_readings (MakeTuple d xs) = values_read xs [] ∙ append-nil xs
field_readings (ExtractTupleElement d x k t) = refl
field_readings (MakeStruct d fs t) = inits_read fs (stays (type_id_bytes t) ∷ []) ∙ append-nil (init_values fs)
field_readings (ExtractStructField d x n t) = refl
field_readings (InsertField d x n y t) = refl
field_readings (InsertTuple d x k y t) = refl
field_readings (MakeFixedArray d xs t c) = values_read xs (stays (type_id_bytes t) ∷ []) ∙ append-nil xs
field_readings (AssertEq x y) = refl
field_readings (HeapAllocCells d x) = refl
