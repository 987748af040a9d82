-- The bytes of a routine.
use Rattle.std.specs.Prelude.{ℕ, ◌+◌, ◌*◌, ◌/◌, List, [], ◌∷◌, ◌++◌, length}
use Rattle.std.proofs.Math.Option.{Option}
use Rattle.bytes_wire.specs.Number.{to_bytes}
use Rattle.mir.specs.declared.TypeId.{TypeId}
use Rattle.bytes_field.specs.Encode.{value_id_bytes, block_id_bytes, type_id_bytes, each_bytes, list_bytes, option_bytes, stands}
use Rattle.bytes_block.specs.Encode.{block_bytes}
use Rattle.bytes_types.specs.Encode.{types_bytes}
use Rattle.mir.specs.Routine.{Routine}

-- the number whose bit v stands where value v has a recorded type
abbrev pub map_number : List (Option TypeId) → ℕ
map_number [] = 0
map_number (t ∷ ts) = stands t + 2 * map_number ts

-- its bytes, and the types of the values that have one, rising
abbrev pub recorded_bytes : List (Option TypeId) → List ℕ
recorded_bytes ts = to_bytes ((length ts + 7) / 8) (map_number ts) ++ each_bytes (option_bytes type_id_bytes) ts

-- in the order of the decoder
unfoldable pub encode : Routine → List ℕ
encode r =
    types_bytes r.types
    ++ (to_bytes 2 r.next
    ++ (to_bytes 2 (length r.blocks)
    ++ (block_id_bytes r.entry
    ++ (list_bytes value_id_bytes r.parameters
    ++ (recorded_bytes r.recorded
    ++ each_bytes block_bytes r.blocks)))))
