-- The decoder of a whole routine, in the order of document 01: "u16 type count, types; u16 next value; u16 block count;
-- u16 entry block; u8 parameter count, u16 each; a bit map of next-value bits, then a u16 type for each set bit,
-- rising; then the blocks".
use Rattle.std.specs.Prelude.{ℕ, zero, suc, ◌+◌, ◌/◌, ◌%◌, ◌^◌, List, [], ◌∷◌, ◌++◌, Bool, true, false, cond, length, get_or, replicate, ltb, eqb}
use Rattle.std.proofs.Math.Option.{Option, none, some}
use Rattle.bytes_wire.specs.Parse.{Parse, ok, bad, and_then, map_parse, checked, seq_of}
use Rattle.bytes_wire.specs.Number.{u8_of, u16_of, counted}
use Rattle.bytes_wire.specs.declared.Cause.{Cause}
use Rattle.mir.specs.declared.TypeId.{TypeId}
use Rattle.mir.specs.Syntax.{Block}
use Rattle.bytes_field.specs.Decode.{type_id_of, block_id_of, defineds_of, bit}
use Rattle.bytes_field.specs.declared.Bounds.{Bounds}
use Rattle.bytes_block.specs.Decode.{marks, block_marks, block_of}
use Rattle.bytes_block.specs.declared.Mosts.{Mosts}
use Rattle.mir.specs.MirType.{MirType}
use Rattle.bytes_types.specs.Decode.{types_of}
use Rattle.mir.specs.Routine.{Routine}
use Rattle.bytes_sections.specs.declared.Sizes.{Sizes}

-- "Most: 64 types, next value 256, 32 blocks, 128 instructions in a block, 256 in all, 16 in any list, 8 projections"
abbrev pub mosts : Mosts
mosts = record { types = 64; next = 256; blocks = 32; block = 128; all = 256; list = 16; projections = 8 }

-- a u16 that is a count: next value, blocks
abbrev pub at_most : ℕ → List ℕ → Parse ℕ
at_most most s = counted most (u16_of s)

-- "value v is bit v mod 8 of byte v div 8, low bit first, spare bits 0"
abbrev pub last_byte_of : ℕ → List ℕ → Parse (List ℕ)
last_byte_of bits s = cond (eqb bits 0) (ok [] 0) (map_parse (λ x. x ∷ []) (checked Cause.Undefined (λ x. ltb x (2 ^ bits)) (u8_of s)))

-- "a bit map of next-value bits": the whole bytes, then one for the bits that are left
unfoldable pub map_of : ℕ → List ℕ → Parse (List ℕ)
map_of next s = and_then s (seq_of u8_of (next / 8) s) (λ whole s. map_parse (λ last. whole ++ last) (last_byte_of (next % 8) s))

abbrev pub has_recorded : List ℕ → ℕ → Bool
has_recorded map v = bit (v % 8) (get_or map (v / 8) 0)

-- a type for each of k values from v on whose bit stands
abbrev pub recorded_type_of : ℕ → Bool → List ℕ → Parse (Option TypeId)
recorded_type_of types true s = map_parse some (type_id_of types s)
recorded_type_of types false s = ok none 0

unfoldable pub recorded_of : ℕ → List ℕ → ℕ → ℕ → List ℕ → Parse (List (Option TypeId))
recorded_of types map v zero s = ok [] 0
recorded_of types map v (suc k) s =
    and_then s (recorded_type_of types (has_recorded map v) s) (λ t s. map_parse (λ ts. t ∷ ts) (recorded_of types map (suc v) k s))

-- k blocks, behind `total` instructions
unfoldable pub blocks_of : Mosts → Bounds → ℕ → List Bool → ℕ → List ℕ → Parse (List Block)
blocks_of m b total seen zero s = ok [] 0
blocks_of m b total seen (suc k) s =
    and_then s (block_of m b total seen s) (λ x s.
    map_parse (λ xs. x ∷ xs) (blocks_of m b (total + length x.instructions) (block_marks seen x.instructions) k s))

abbrev pub bounds_of : Mosts → ℕ → ℕ → ℕ → Bounds
bounds_of m types next blocks = record { types = types; next = next; blocks = blocks; list = m.list; projections = m.projections }

-- the three numbers behind the types: "u16 next value; u16 block count; u16 entry block"
unfoldable pub sizes_of : Mosts → List ℕ → Parse Sizes
sizes_of m s =
    and_then s (at_most m.next s) (λ next s.
    and_then s (at_most m.blocks s) (λ blocks s.
    map_parse (λ entry. record { next = next; blocks = blocks; entry = entry }) (block_id_of blocks s)))

-- what stands behind the sizes: parameters, recorded types, blocks; no value is defined before
unfoldable pub body_of : Mosts → List MirType → Sizes → List ℕ → Parse Routine
body_of m ts z s =
    let clear = replicate z.next false in
    and_then s (defineds_of m.list z.next clear s) (λ ps s.
    and_then s (map_of z.next s) (λ map s.
    and_then s (recorded_of (length ts) map 0 z.next s) (λ rs s.
    map_parse (λ ks. record { types = ts; next = z.next; entry = z.entry; parameters = ps; recorded = rs; blocks = ks })
    (blocks_of m (bounds_of m (length ts) z.next z.blocks) 0 (marks clear ps) z.blocks s))))

-- "u16 type count, types", then the sizes, then the rest
unfoldable pub routine_of : Mosts → List ℕ → Parse Routine
routine_of m s = and_then s (types_of m.types m.list s) (λ ts s. and_then s (sizes_of m s) (λ z s. body_of m ts z s))

-- "bytes after the last block" are refused at the first
abbrev pub ended : Routine → List ℕ → Parse Routine
ended r s = cond (eqb (length s) 0) (ok r 0) (bad Cause.Trailing 0)

-- the whole input: a routine and no byte behind it
unfoldable pub whole_of : Mosts → List ℕ → Parse Routine
whole_of m s = and_then s (routine_of m s) (λ r t. ended r t)
