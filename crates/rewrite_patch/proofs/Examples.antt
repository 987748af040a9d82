-- What the definitions say of some instructions: a base and its Index, a Store's value behind its places, inits behind their names.
use Prim.Native.Nat.{ℕ}
use mathlib.Core.Path.{◌≡◌, refl}
use mathlib.Core.List.{[], ◌∷◌}
use Rattle.mir.specs.declared.Value.{Value}
use Rattle.mir.specs.declared.ValueId.{ValueId}
use Rattle.mir.specs.declared.TypeId.{TypeId}
use Rattle.mir.specs.declared.Projection.{Projection}
use Rattle.mir.specs.Syntax.{Instruction, Load, Store, MakeStruct, plain}
use Rattle.bytes_wire.specs.Value.{unit}
use Rattle.bytes_field.specs.Encode.{instruction_bytes, field_bytes}
use Rattle.rewrite.specs.Readings.{readings, with_readings, first, others, base_of, with_indices, with_inits}
use Rattle.rewrite_patch.specs.Chunks.{chunks, field_chunks, step_chunks, init_chunks, number_places, reading_places, patched, numbered, with_numbers}

v : ℕ → ValueId
v n = record { 0 = n }

t : TypeId
t = record { 0 = 7 }

x : ℕ → Value
x n = Value.Operand (v n)

-- %2 = Load %3 .Field 9 [%4]
load : Instruction
load = plain (Load (v 2) (record { base = v 3; projections = Projection.Field (record { 0 = 9 }) ∷ Projection.Index (x 4) ∷ [] }) t)

-- Store %3 [%4] .Tuple 1, %5
store : Instruction
store = plain (Store (record { base = v 3; projections = Projection.Index (x 4) ∷ Projection.Tuple 1 ∷ [] }) (x 5) t)

-- %2 = MakeStruct 8: unit, 9: %4
build : Instruction
build = plain (MakeStruct (v 2) (record { name = record { 0 = 8 }; value = unit } ∷ record { name = record { 0 = 9 }; value = x 4 } ∷ []) t)

load_places : reading_places load ≡ 4 ∷ 12 ∷ []
unfolding chunks field_chunks step_chunks number_places load v x t
load_places = refl

store_places : reading_places store ≡ 7 ∷ 15 ∷ []
unfolding chunks field_chunks step_chunks number_places store v x t
store_places = refl

build_places : reading_places build ≡ 8 ∷ 11 ∷ []
unfolding chunks field_chunks init_chunks number_places build v x t
build_places = refl

-- 300 for the base alone, and 301 for the Index
load_patched : patched (instruction_bytes load) (reading_places load) (300 ∷ 301 ∷ []) ≡ 0 ∷ 5 ∷ 2 ∷ 0 ∷ 44 ∷ 1 ∷ 2 ∷ 1 ∷ 9 ∷ 0 ∷ 0 ∷ 3 ∷ 45 ∷ 1 ∷ 7 ∷ 0 ∷ []
unfolding chunks field_chunks step_chunks number_places load v x t patched instruction_bytes field_bytes
load_patched = refl

load_with : instruction_bytes (with_numbers load (300 ∷ 301 ∷ [])) ≡ 0 ∷ 5 ∷ 2 ∷ 0 ∷ 44 ∷ 1 ∷ 2 ∷ 1 ∷ 9 ∷ 0 ∷ 0 ∷ 3 ∷ 45 ∷ 1 ∷ 7 ∷ 0 ∷ []
unfolding load v x t numbered readings with_readings first others base_of with_indices instruction_bytes field_bytes
load_with = refl

-- the value alone, past the numbers none
store_patched : patched (instruction_bytes store) (reading_places store) (0 ∷ 300 ∷ []) ≡ 0 ∷ 6 ∷ 3 ∷ 0 ∷ 2 ∷ 0 ∷ 3 ∷ 4 ∷ 0 ∷ 2 ∷ 1 ∷ 0 ∷ 0 ∷ 0 ∷ 3 ∷ 44 ∷ 1 ∷ 7 ∷ 0 ∷ []
unfolding chunks field_chunks step_chunks number_places store v x t patched instruction_bytes field_bytes
store_patched = refl

build_with : instruction_bytes (with_numbers build (0 ∷ 300 ∷ [])) ≡ 0 ∷ 12 ∷ 2 ∷ 0 ∷ 2 ∷ 8 ∷ 0 ∷ 2 ∷ 9 ∷ 0 ∷ 3 ∷ 44 ∷ 1 ∷ 7 ∷ 0 ∷ []
unfolding build v x t numbered readings with_readings first others with_inits instruction_bytes field_bytes
build_with = refl
