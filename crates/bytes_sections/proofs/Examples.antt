-- Worked examples, by computation: document 01's input, and the rows of hexadecimal that settle its open points.
use Prim.Native.Nat.{ℕ}
use mathlib.Core.Path.{◌≡◌, refl}
use mathlib.Core.List.{List, [], ◌∷◌}
use mathlib.Core.Option.{none, some}
use Rattle.bytes_wire.specs.Parse.{Parse, ok, bad, seq_of}
use Rattle.bytes_wire.specs.Number.{number_of}
use Rattle.bytes_wire.specs.Value.{value_of, integer}
use Rattle.bytes_wire.specs.declared.Cause.{Cause}
use Rattle.mir.specs.declared.Value.{Value}
use Rattle.mir.specs.Syntax.{Meta, InstructionKind, Terminator}
use Rattle.bytes_field.specs.Decode.{list_of, defined_seq, defineds_of, projection_of, meta_of, instruction_of, terminator_of, jump_of, if_of, branch_of, return_of}
use Rattle.bytes_field.specs.Decode.{assign_of, unary_of, binary_of, returns_of, call_of, cast_of, load_of, store_of, debug_of, phi_of, make_tuple_of, extract_tuple_of, make_struct_of, extract_field_of, insert_field_of, insert_tuple_of, make_array_of, assert_eq_of, heap_alloc_of}
use Rattle.bytes_field.specs.Encode.{field_bytes, instruction_bytes, terminator_bytes}
use Rattle.bytes_block.specs.Decode.{instructions_of, block_of}
use Rattle.bytes_block.specs.Encode.{block_bytes}
use Rattle.mir.specs.MirType.{MirType}
use Rattle.bytes_types.specs.Encode.{type_bytes, types_bytes}
use Rattle.bytes_types.specs.Decode.{type_of, struct_of, struct_fields, has_type, type_seq, types_of}
use Rattle.mir.specs.Routine.{Routine}
use Rattle.bytes_sections.specs.Decode.{mosts, map_of, recorded_of, blocks_of, sizes_of, body_of, routine_of, whole_of}
use Rattle.bytes_sections.specs.Encode.{encode}

-- document 01's input: a tuple of 7 and 8, part 1 returned
abbrev pub example_bytes : List ℕ
example_bytes = 2 ∷ 0 ∷ 0 ∷ 3 ∷ 2 ∷ 0 ∷ 0 ∷ 0 ∷ 0 ∷ 2 ∷ 0 ∷ 1 ∷ 0 ∷ 0 ∷ 0 ∷ 0 ∷ 3 ∷ 1 ∷ 0 ∷ 0 ∷ 0 ∷ 2 ∷ 0 ∷ 0 ∷ 10 ∷ 0 ∷ 0 ∷ 2 ∷ 0 ∷ 7 ∷ 0 ∷ 0 ∷ 0 ∷ 0 ∷ 8 ∷ 0 ∷ 0 ∷ 0 ∷ 0 ∷ 11 ∷ 1 ∷ 0 ∷ 3 ∷ 0 ∷ 0 ∷ 1 ∷ 0 ∷ 0 ∷ 0 ∷ 0 ∷ 0 ∷ 3 ∷ 1 ∷ 3 ∷ 1 ∷ 0 ∷ []

abbrev pub no_meta : Meta
no_meta = record { span = none; expression = none; comment = none }

abbrev pub example : Routine
example =
    record {
      types = MirType.Felt ∷ MirType.Tuple (record { 0 = 0 } ∷ record { 0 = 0 } ∷ []) ∷ [];
      next = 2;
      entry = record { 0 = 0 };
      parameters = [];
      recorded = some (record { 0 = 1 }) ∷ some (record { 0 = 0 }) ∷ [];
      blocks =
          record {
            instructions =
                record { meta = no_meta; kind = InstructionKind.MakeTuple (record { 0 = 0 }) (integer 7 ∷ integer 8 ∷ []) }
                ∷ record { meta = no_meta; kind = InstructionKind.ExtractTupleElement (record { 0 = 1 }) (Value.Operand (record { 0 = 0 })) 1 (record { 0 = 0 }) }
                ∷ [];
            terminator = Terminator.Return (Value.Operand (record { 0 = 1 }) ∷ []);
          }
          ∷ [];
    }

-- every definition on the way of a decoding, opened
unfoldable decoding : Unit {0}
unfolding whole_of routine_of sizes_of body_of types_of type_seq type_of struct_of has_type type_bytes struct_fields defineds_of defined_seq map_of recorded_of blocks_of block_of instructions_of instruction_of meta_of terminator_of jump_of if_of branch_of return_of list_of seq_of number_of value_of projection_of
decoding = tt

unfoldable kinds : Unit {0}
unfolding assign_of unary_of binary_of returns_of call_of cast_of load_of store_of debug_of phi_of make_tuple_of extract_tuple_of make_struct_of extract_field_of insert_field_of insert_tuple_of make_array_of assert_eq_of heap_alloc_of
kinds = tt

-- all of it
unfoldable pub reading : Unit {0}
unfolding decoding kinds
reading = tt

-- the answer
unfoldable answer : List ℕ → Parse Routine
unfolding reading
answer s = whole_of mosts s

pub example_decodes : whole_of mosts example_bytes ≡ ok example 56
unfolding answer
example_decodes = refl

pub example_encodes : encode example ≡ example_bytes
unfolding encode types_bytes type_bytes block_bytes instruction_bytes field_bytes terminator_bytes
example_encodes = refl

pub empty_input : whole_of mosts ([]) ≡ bad Cause.Truncated 0
unfolding answer
empty_input = refl

pub ends_at_the_entry : whole_of mosts (0 ∷ 0 ∷ 0 ∷ 0 ∷ []) ≡ bad Cause.Truncated 4
unfolding answer
ends_at_the_entry = refl

pub return_count_17 : whole_of mosts (1 ∷ 0 ∷ 0 ∷ 2 ∷ 0 ∷ 1 ∷ 0 ∷ 0 ∷ 0 ∷ 0 ∷ 0 ∷ 1 ∷ 0 ∷ 0 ∷ 3 ∷ 0 ∷ 0 ∷ 0 ∷ 0 ∷ 0 ∷ 17 ∷ []) ≡ bad Cause.TooMany 20
unfolding answer
return_count_17 = refl

pub const_bit_elsewhere : whole_of mosts (1 ∷ 0 ∷ 0 ∷ 2 ∷ 0 ∷ 1 ∷ 0 ∷ 0 ∷ 0 ∷ 0 ∷ 0 ∷ 1 ∷ 0 ∷ 8 ∷ 19 ∷ []) ≡ bad Cause.Undefined 13
unfolding answer
const_bit_elsewhere = refl

pub const_bit_last : whole_of mosts (1 ∷ 0 ∷ 0 ∷ 2 ∷ 0 ∷ 1 ∷ 0 ∷ 0 ∷ 0 ∷ 0 ∷ 0 ∷ 1 ∷ 0 ∷ 8 ∷ []) ≡ bad Cause.Truncated 14
unfolding answer
const_bit_last = refl

pub no_blocks : whole_of mosts (0 ∷ 0 ∷ 0 ∷ 0 ∷ 0 ∷ 0 ∷ 0 ∷ 0 ∷ 0 ∷ []) ≡ bad Cause.OutOfRange 6
unfolding answer
no_blocks = refl
