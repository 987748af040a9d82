-- No instruction, terminator or block reaches further than its bytes.
use Prim.Native.Nat.{ℕ, zero, suc, ◌+◌, ◌≤◌, zero-le}
use mathlib.Core.Path.{ap}
use mathlib.Core.List.{List, []}
use mathlib.Core.Bool.{Bool, false, not, ◌&&◌, ◌||◌}
use native.Mathlib.Nat.{le_trans}
use native.Mathlib.Omega.{arith}
use lib.ListN.{length, get_or}
use lib.Dec.{leb, ltb, eqb}
use Rattle.bytes_wire.specs.Parse.{map_parse, checked}
use Rattle.bytes_wire.specs.Number.{u8_of, u16_of}
use Rattle.bytes_wire.specs.declared.Cause.{Cause}
use Rattle.bytes_wire.proofs.Laws.{size, size_map, size_checked, size_and, size_number, size_tagged, none, ◌&◌}
use Rattle.mir.specs.Reads.{dests, is_phi}
use Rattle.bytes_field.specs.Decode.{defined_bits, bits_of, kind_of, meta_of, instruction_of, jump_of, if_of, branch_of, return_of, terminators, terminator_of}
use Rattle.bytes_field.specs.Walk.{Walk, walk_of, passes, leaves, row_walk, rows}
use Rattle.bytes_field.specs.declared.Bounds.{Bounds}
use Rattle.bytes_field.proofs.Rows.{jump_row, if_row, branch_row, return_row}
use Rattle.bytes_field.proofs.Sizes.{size_row}
use Rattle.bytes_block.specs.Decode.{head_of, instructions_of, block_count_of, block_of, marks}
use Rattle.bytes_block.specs.declared.Mosts.{Mosts}
use Rattle.bytes_block.proofs.Meta.{size_meta}
use Rattle.bytes_block.proofs.Laws.{instruction_rows, row_behind}

-- a kind
size_kind : (late : Bool) (s : List ℕ) → size (kind_of late s) ≤ length s
size_kind late s =
    le_trans (size_checked Cause.LatePhi (λ k. not (late && eqb k 9)) (checked Cause.Undefined (λ k. ltb k 19) (u8_of s)))
    (le_trans (size_checked Cause.Undefined (λ k. ltb k 19) (u8_of s)) (size_number 1 s))

-- a bit map and a kind
pub size_head : (late : Bool) (s : List ℕ) → size (head_of late s) ≤ length s
unfolding head_of
size_head late s =
    size_and s (bits_of s) _ (le_trans (size_checked Cause.Undefined (defined_bits s) (u8_of s)) (size_number 1 s))
    (λ x t. rw size_map (size_kind late t))

-- an instruction
pub size_instruction : (b : Bounds) (seen : List Bool) (late : Bool) (s : List ℕ) → size (instruction_of b seen late s) ≤ length s
size_instruction b seen late s =
    let w = walk_of seen [] 0 late in
    omega (
      arith,
      ap size (instruction_rows b w s),
      size_map (passes w) (instruction_of b seen late s),
      size_and s (head_of late s) (row_behind b w) (size_head late s) (λ h t. rw size_map
          (size_and t (map_parse (λ x. w) (meta_of h.bits t)) (λ v u. row_walk b (get_or u 0 0) 5 (get_or rows h.kind 0) v u) (rw size_map (size_meta h.bits t)) (λ v u. size_row b (get_or u 0 0) 5 (get_or rows h.kind 0) v u))),
    )

-- a terminator
pub size_terminator : (b : Bounds) (s : List ℕ) → size (terminator_of b s) ≤ length s
unfolding terminator_of
size_terminator b s =
    let w = walk_of [] [] 0 false in
    size_tagged (terminators b)
    ((λ t. omega (arith, ap size (jump_row b 0 w t), size_map (leaves w) (jump_of b t), size_row b 0 5 0x6 w t))
    & (λ t. omega (arith, ap size (if_row b 0 w t), size_map (leaves w) (if_of b t), size_row b 0 5 0x662 w t))
    & (λ t. omega (arith, ap size (branch_row b 0 w t), size_map (leaves w) (branch_of b t), size_row b 0 5 0x66228 w t))
    & (λ t. omega (arith, ap size (return_row b 0 w t), size_map (leaves w) (return_of b t), size_row b 0 5 0xa w t))
    & (λ t. zero-le)
    & none)
    s

-- what it does to a walk
pub size_left : (b : Bounds) (w : Walk) (s : List ℕ) → size (map_parse (leaves w) (terminator_of b s)) ≤ length s
size_left b w s = rw size_map (size_terminator b s)

-- several instructions
pub size_instructions : (b : Bounds) (seen : List Bool) (late : Bool) (k : ℕ) (s : List ℕ) → size (instructions_of b seen late k s) ≤ length s
unfolding instructions_of
size_instructions b seen late zero s = zero-le
size_instructions b seen late (suc k) s =
    size_and s (instruction_of b seen late s) _ (size_instruction b seen late s)
    (λ i t. rw size_map (size_instructions b (marks seen (dests i.kind)) (late || not (is_phi i.kind)) k t))

-- a block
pub size_block : (m : Mosts) (b : Bounds) (total : ℕ) (seen : List Bool) (s : List ℕ) → size (block_of m b total seen s) ≤ length s
unfolding block_of
size_block m b total seen s =
    size_and s (block_count_of m total s) _
    (le_trans (size_checked Cause.TooMany (λ n. leb n m.block && leb (total + n) m.all) (u16_of s)) (size_number 2 s))
    (λ n t. size_and t (instructions_of b seen false n t) _ (size_instructions b seen false n t) (λ is u. rw size_map (size_terminator b u)))
