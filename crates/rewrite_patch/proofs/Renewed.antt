-- The chunks of an instruction with fresh numbers in place of readings are its own with them.
use Prim.Native.Nat.{ℕ, suc, ◌+◌}
use mathlib.Core.Path.{◌≡◌, refl, ap, ◌∙◌, sym}
use mathlib.Core.List.{List, [], ◌∷◌, ◌++◌, append-nil}
use native.Mathlib.Omega.{arith}
use lib.ListN.{length, get_or, drop, drop_of_length-le}
use lib.Seq.{sets, sets-eq}
use Rattle.mir.specs.declared.Value.{Value}
use Rattle.mir.specs.declared.Projection.{Projection}
use Rattle.mir.specs.declared.Projection.TheVariants.{Index, Field, Tuple}
use Rattle.mir.specs.Syntax.{FieldInit, InstructionKind, Instruction}
use Rattle.mir.specs.Syntax.{Assign, UnaryOp, BinaryOp, Call, Cast, Load, Store, Debug, Nop, Phi}
use Rattle.mir.specs.Syntax.{MakeTuple, ExtractTupleElement, MakeStruct, ExtractStructField, InsertField, InsertTuple, MakeFixedArray, AssertEq, HeapAllocCells}
use Rattle.mir.specs.Reads.{kind_number, indices, init_values}
use Rattle.bytes_field.specs.Encode.{list_bytes, type_id_bytes, const_bit, instruction_bytes}
use Rattle.rewrite.specs.Readings.{readings, with_readings, first, others, with_indices, behind_indices, with_inits}
use Rattle.rewrite_patch.specs.Chunks.{Chunk, stays, valued, value_chunks, init_chunks, step_chunks, field_chunks, chunks, or_number, number_places, reading_places, patched, numbered, with_numbers, Replaces}
use Rattle.rewrite_patch.proofs.EachKind.{bytes_in, values_in, chunks_with, field_readings, layout}
use Rattle.rewrite_patch.proofs.Patched.{patched_lem, same_long}

-- the numbers behind those of some values
unfoldable pub behind : List Value → List ℕ → List ℕ
behind [] ns = ns
behind (x ∷ xs) ns = behind xs (drop 1 ns)

-- as many
pub numbered_many : (xs : List Value) (ns : List ℕ) → length (numbered xs ns) ≡ length xs
unfolding numbered
numbered_many [] ns = refl
numbered_many (x ∷ xs) ns = ap suc (numbered_many xs (drop 1 ns))

inits_many : (fs : List FieldInit) (vs : List Value) → length (with_inits fs vs) ≡ length fs
unfolding with_inits
inits_many [] vs = refl
inits_many (f ∷ fs) vs = ap suc (inits_many fs (others vs))

steps_many : (ps : List Projection) (vs : List Value) → length (with_indices ps vs) ≡ length ps
unfolding with_indices
steps_many [] vs = refl
steps_many (Index x ∷ ps) vs = ap suc (steps_many ps (others vs))
steps_many (Field n ∷ ps) vs = ap suc (steps_many ps vs)
steps_many (Tuple k ∷ ps) vs = ap suc (steps_many ps vs)

-- values, inits and projections in front of others
pub values_with : (xs : List Value) (l : List Chunk) (ns : List ℕ) → chunks_with (value_chunks xs l) ns ≡ value_chunks (numbered xs ns) (chunks_with l (behind xs ns))
unfolding value_chunks chunks_with numbered behind
values_with [] l ns = refl
values_with (x ∷ xs) l ns = ap (λ r. valued (or_number x (get_or ns 0 0)) ∷ r) (values_with xs l (drop 1 ns))

inits_with : (fs : List FieldInit) (l : List Chunk) (ns : List ℕ) → chunks_with (init_chunks fs l) ns ≡ init_chunks (with_inits fs (numbered (init_values fs) ns)) (chunks_with l (behind (init_values fs) ns))
unfolding init_chunks chunks_with numbered behind with_inits first others
inits_with [] l ns = refl
inits_with (f ∷ fs) l ns = rw (inits_with fs l (drop 1 ns)) refl

steps_with : (ps : List Projection) (xs : List Value) (l : List Chunk) (ns : List ℕ) → chunks_with (step_chunks ps l) ns ≡ step_chunks (with_indices ps (numbered (indices ps ++ xs) ns)) (chunks_with l (behind (indices ps) ns))
unfolding step_chunks chunks_with numbered behind with_indices first others
steps_with [] xs l ns = refl
steps_with (Index x ∷ ps) xs l ns = rw (steps_with ps xs l (drop 1 ns)) refl
steps_with (Field n ∷ ps) xs l ns = rw (steps_with ps xs l ns) refl
steps_with (Tuple k ∷ ps) xs l ns = rw (steps_with ps xs l ns) refl

behind_steps : (ps : List Projection) (xs : List Value) (ns : List ℕ) → behind_indices ps (numbered (indices ps ++ xs) ns) ≡ numbered xs (behind (indices ps) ns)
unfolding numbered behind behind_indices others
behind_steps [] xs ns = refl
behind_steps (Index x ∷ ps) xs ns = behind_steps ps xs (drop 1 ns)
behind_steps (Field n ∷ ps) xs ns = behind_steps ps xs ns
behind_steps (Tuple k ∷ ps) xs ns = behind_steps ps xs ns

-- the kind stays
kind_same : (k : InstructionKind) (vs : List Value) → kind_number (with_readings k vs) ≡ kind_number k
unfolding with_readings
kind_same (Assign d x t) vs = refl
kind_same (UnaryOp op d x) vs = refl
kind_same (BinaryOp op d x y) vs = refl
kind_same (Call ds f xs ps rs) vs = refl
kind_same (Cast d x t u) vs = refl
kind_same (Load d p t) vs = refl
kind_same (Store p x t) vs = refl
kind_same (Debug m xs) vs = refl
kind_same Nop vs = refl
kind_same (Phi d t ss) vs = refl
kind_same (MakeTuple d xs) vs = refl
kind_same (ExtractTupleElement d x k t) vs = refl
kind_same (MakeStruct d fs t) vs = refl
kind_same (ExtractStructField d x n t) vs = refl
kind_same (InsertField d x n y t) vs = refl
kind_same (InsertTuple d x k y t) vs = refl
kind_same (MakeFixedArray d xs t c) vs = refl
kind_same (AssertEq x y) vs = refl
kind_same (HeapAllocCells d x) vs = refl

const_same : (k : InstructionKind) (vs : List Value) → const_bit (with_readings k vs) ≡ const_bit k
unfolding with_readings
const_same (Assign d x t) vs = refl
const_same (UnaryOp op d x) vs = refl
const_same (BinaryOp op d x y) vs = refl
const_same (Call ds f xs ps rs) vs = refl
const_same (Cast d x t u) vs = refl
const_same (Load d p t) vs = refl
const_same (Store p x t) vs = refl
const_same (Debug m xs) vs = refl
const_same Nop vs = refl
const_same (Phi d t ss) vs = refl
const_same (MakeTuple d xs) vs = refl
const_same (ExtractTupleElement d x k t) vs = refl
const_same (MakeStruct d fs t) vs = refl
const_same (ExtractStructField d x n t) vs = refl
const_same (InsertField d x n y t) vs = refl
const_same (InsertTuple d x k y t) vs = refl
const_same (MakeFixedArray d xs t c) vs = refl
const_same (AssertEq x y) vs = refl
const_same (HeapAllocCells d x) vs = refl

-- the fields of each kind
field_renewed : (k : InstructionKind) (ns : List ℕ) → field_chunks (with_readings k (numbered (readings k) ns)) ≡ chunks_with (field_chunks k) ns
unfolding field_chunks chunks_with readings with_readings numbered first others
field_renewed (Assign d x t) ns = refl
field_renewed (UnaryOp op d x) ns = refl
field_renewed (BinaryOp op d x y) ns = refl
field_renewed (Call ds f xs ps rs) ns =
    let l : List Chunk = stays (list_bytes type_id_bytes ps ++ list_bytes type_id_bytes rs) ∷ [] in
    rw (numbered_many xs ns, values_with xs l ns) refl
field_renewed (Cast d x t u) ns = refl
field_renewed (Load d p t) ns =
    let l : List Chunk = stays (type_id_bytes t) ∷ [] in
    rw (steps_with p.projections [] l (drop 1 ns), append-nil (indices p.projections), steps_many p.projections (numbered (indices p.projections) (drop 1 ns))) refl
field_renewed (Store p x t) ns =
    let l : List Chunk = valued x ∷ stays (type_id_bytes t) ∷ [] in
    rw (steps_with p.projections (x ∷ []) l ns, behind_steps p.projections (x ∷ []) ns, steps_many p.projections (numbered (indices p.projections ++ (x ∷ [])) ns)) refl
field_renewed (Debug m xs) ns = rw (numbered_many xs ns, values_with xs [] ns) refl
field_renewed Nop ns = refl
field_renewed (Phi d t ss) ns = refl
field_renewed (MakeTuple d xs) ns = rw (numbered_many xs ns, values_with xs [] ns) refl
field_renewed (ExtractTupleElement d x k t) ns = refl
field_renewed (MakeStruct d fs t) ns = rw (inits_with fs (stays (type_id_bytes t) ∷ []) ns, inits_many fs (numbered (init_values fs) ns)) refl
field_renewed (ExtractStructField d x n t) ns = refl
field_renewed (InsertField d x n y t) ns = refl
field_renewed (InsertTuple d x k y t) ns = refl
field_renewed (MakeFixedArray d xs t c) ns = rw (numbered_many xs ns, values_with xs (stays (type_id_bytes t) ∷ []) ns) refl
field_renewed (AssertEq x y) ns = refl
field_renewed (HeapAllocCells d x) ns = refl

-- an instruction
renewed : (i : Instruction) (ns : List ℕ) → chunks (with_numbers i ns) ≡ chunks_with (chunks i) ns
unfolding chunks chunks_with
renewed i ns = rw (field_renewed i.kind ns, kind_same i.kind (numbered (readings i.kind) ns), const_same i.kind (numbered (readings i.kind) ns)) refl

-- what is read of it
pub all_read : (i : Instruction) → values_in (chunks i) ≡ readings i.kind
unfolding chunks values_in
all_read i = field_readings i.kind

-- its bytes with the numbers put in
pub patched_whole : (i : Instruction) (out : List ℕ) (to : ℕ) (ns : List ℕ) → Replaces (readings i.kind) ns → patched (sets out to (instruction_bytes i)) (number_places to (chunks i)) ns ≡ sets out to (instruction_bytes (with_numbers i ns))
patched_whole i out to ns h =
    ap (λ b. patched (sets out to b) (number_places to (chunks i)) ns) (sym (layout i))
    ∙ patched_lem (chunks i) out to ns (rw (all_read i) h)
    ∙ ap (λ l. sets out to (bytes_in l)) (sym (renewed i ns))
    ∙ ap (sets out to) (layout (with_numbers i ns))

-- and as many bytes
pub whole_long : (i : Instruction) (ns : List ℕ) → Replaces (readings i.kind) ns → length (instruction_bytes (with_numbers i ns)) ≡ length (instruction_bytes i)
whole_long i ns h =
    ap length (sym (layout (with_numbers i ns)) ∙ ap bytes_in (renewed i ns))
    ∙ same_long (chunks i) ns (rw (all_read i) h)
    ∙ ap length (layout i)

-- so the law of kept instructions: their bytes with the numbers put in their places are those of the instruction with them
pub patched_bytes : (i : Instruction) (ns : List ℕ) → Replaces (readings i.kind) ns → patched (instruction_bytes i) (reading_places i) ns ≡ instruction_bytes (with_numbers i ns)
patched_bytes i ns h =
    let w = instruction_bytes i in
    ap (λ s. patched s (reading_places i) ns) (sym (all_set w w refl))
    ∙ patched_whole i w 0 ns h
    ∙ all_set (instruction_bytes (with_numbers i ns)) w (whole_long i ns h)
  where
    all_set : (v w : List ℕ) → length v ≡ length w → sets w 0 v ≡ v
    all_set v w e =
        let z : drop (0 + length v) w ≡ [] = drop_of_length-le w (omega (arith, e)) in
        rw (sets-eq v w 0 (omega (arith, e)), z) (append-nil v)
