-- A block that is written is read back.
use Prim.Native.Nat.{ℕ, ◌+◌, ◌<◌}
use mathlib.Core.List.{List, [], ◌∷◌}
use mathlib.Core.Bool.{Bool, false, not, ◌&&◌, ◌||◌}
use native.Mathlib.Omega.{arith}
use borrow.Author.Tests.{le-leb}
use lib.ListN.{length}
use lib.Dec.{leb}
use Rattle.std.specs.Cmp.Derive.{both_true}
use Rattle.bytes_wire.specs.declared.Cause.{Cause}
use Rattle.mir.specs.Syntax.{Instruction, Terminator, Block}
use Rattle.mir.specs.Reads.{dests, is_phi}
use Rattle.bytes_field.specs.Encode.{each_bytes, instruction_bytes, terminator_bytes}
use Rattle.bytes_field.specs.Decode.{instruction_of, terminator_of}
use Rattle.bytes_field.specs.declared.Bounds.{Bounds}
use Rattle.bytes_laws.specs.WellFormed.{Wide, FitInstruction, FitTerminator}
use Rattle.bytes_laws.proofs.Back.{Back, then, last, alone, tested, number}
use Rattle.bytes_laws.proofs.BackKinds.{instruction_back, terminator_back}
use Rattle.bytes_block.specs.Decode.{marks, instructions_of, block_of}
use Rattle.bytes_block.specs.Encode.{block_bytes}
use Rattle.bytes_block.specs.WellFormed.{WideMosts, FitInstructions, FitCode}
use Rattle.bytes_block.specs.declared.Mosts.{Mosts}

module _ (m : Mosts) (b : Bounds) (wm : WideMosts m) (w : Wide b) where
  -- an instruction, and a terminator
  instruction : (seen : List Bool) (late : Bool) (i : Instruction) → FitInstruction b seen late i → Back (instruction_of b seen late) (instruction_bytes i) i
  instruction seen late i h = record { says = λ t. instruction_back b seen late i t w h }

  terminator : (e : Terminator) → FitTerminator b e → Back (terminator_of b) (terminator_bytes e) e
  terminator e h = record { says = λ t. terminator_back b e t w h }

  -- instructions, each behind those before it
  instructions : (seen : List Bool) (late : Bool) (is : List Instruction) → FitInstructions b seen late is → Back (instructions_of b seen late (length is)) (each_bytes instruction_bytes is) is
  unfolding instructions_of
  instructions seen late [] h = alone
  instructions seen late (i ∷ is) h =
      then _ (instruction seen late i h.0)
      (last _ (instructions (marks seen (dests i.kind)) (late || not (is_phi i.kind)) is h.1))

  -- "u16 instruction count, instructions, terminator"
  pub block_back : (total : ℕ) (seen : List Bool) (x : Block) → FitCode m b total seen x → Back (block_of m b total seen) (block_bytes x) x
  unfolding block_of block_bytes
  block_back total seen x h =
      let n = length x.instructions in
      let c : n < 65536 = omega (arith, h.own, wm.block) in
      then _ (tested Cause.TooMany (λ n. leb n m.block && leb (total + n) m.all) (both_true (le-leb n m.block h.own) (le-leb (total + n) m.all h.all)) (number 2 n c))
      (then _ (instructions seen false x.instructions h.instructions)
      (last _ (terminator x.terminator h.terminator)))
