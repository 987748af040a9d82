-- The bytes of a block.
use Rattle.std.specs.Prelude.{ℕ, List, ◌++◌, length}
use Rattle.bytes_wire.specs.Number.{to_bytes}
use Rattle.mir.specs.Syntax.{Block}
use Rattle.bytes_field.specs.Encode.{each_bytes, instruction_bytes, terminator_bytes}

unfoldable pub block_bytes : Block → List ℕ
block_bytes k = to_bytes 2 (length k.instructions) ++ (each_bytes instruction_bytes k.instructions ++ terminator_bytes k.terminator)
