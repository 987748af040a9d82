-- Which blocks have a byte form, in the words of document 01, "The routine in bytes".
use Rattle.std.specs.Prelude.{ℕ, ◌+◌, ◌≤◌, List, [], ◌∷◌, Bool, false, not, ◌||◌, length}
use Rattle.mir.specs.Syntax.{Instruction, Block}
use Rattle.mir.specs.Reads.{dests, is_phi}
use Rattle.bytes_field.specs.declared.Bounds.{Bounds}
use Rattle.bytes_laws.specs.WellFormed.{FitInstruction, FitTerminator}
use Rattle.bytes_block.specs.Decode.{marks}
use Rattle.bytes_block.specs.declared.Mosts.{Mosts}

-- "u16 type count, u16 next value, u16 block count, u16 instruction count, lists u8 count first":
-- the mosts do not pass their fields
pub record WideMosts (m : Mosts) : Type 0 where
  pub types : m.types ≤ 65535
  pub next : m.next ≤ 65535
  pub blocks : m.blocks ≤ 65535
  pub block : m.block ≤ 65535
  pub list : m.list ≤ 255
  pub projections : m.projections ≤ 255

-- each instruction behind those before it: `seen` has a mark for each value defined so far, and `late` is whether
-- another kind than Phi stands before it in the block
abbrev pub FitInstructions : Bounds → List Bool → Bool → List Instruction → Type 0
FitInstructions b seen late [] = Unit {0}
FitInstructions b seen late (i ∷ is) = FitInstruction b seen late i × FitInstructions b (marks seen (dests i.kind)) (late || not (is_phi i.kind)) is

-- "u16 instruction count, instructions, terminator"; `total` instructions stand in the blocks before
pub record FitCode (m : Mosts) (b : Bounds) (total : ℕ) (seen : List Bool) (x : Block) : Type 0 where
  pub own : length x.instructions ≤ m.block
  pub all : total + length x.instructions ≤ m.all
  pub instructions : FitInstructions b seen false x.instructions
  pub terminator : FitTerminator b x.terminator
