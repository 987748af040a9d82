-- Which routines have a byte form, in the words and the order of document 01, "The routine in bytes".
use Rattle.std.specs.Prelude.{ℕ, ◌+◌, ◌≤◌, ◌≡◌, List, [], ◌∷◌, Bool, false, length, replicate}
use Rattle.mir.specs.Syntax.{Block}
use Rattle.bytes_field.specs.declared.Bounds.{Bounds}
use Rattle.mir.specs.Lists.{Each}
use Rattle.bytes_laws.specs.WellFormed.{FitOption, FitType, FitBlock, FitNews}
use Rattle.bytes_block.specs.Decode.{marks, block_marks}
use Rattle.bytes_block.specs.WellFormed.{FitCode}
use Rattle.bytes_block.specs.declared.Mosts.{Mosts}
use Rattle.bytes_types.specs.WellFormed.{FitTypes}
use Rattle.mir.specs.Routine.{Routine}
use Rattle.bytes_sections.specs.Decode.{bounds_of}

-- each block behind those before it
abbrev pub FitBlocks : Mosts → Bounds → ℕ → List Bool → List Block → Type 0
FitBlocks m b total seen [] = Unit {0}
FitBlocks m b total seen (x ∷ xs) = FitCode m b total seen x × FitBlocks m b (total + length x.instructions) (block_marks seen x.instructions) xs

-- what a routine's numbers stay below
abbrev pub bounds : Mosts → Routine → Bounds
bounds m r = bounds_of m (length r.types) r.next (length r.blocks)

-- the marks before the parameters: no value is defined
abbrev pub unmarked : Routine → List Bool
unmarked r = replicate r.next false

pub record WellFormed (m : Mosts) (r : Routine) : Type 0 where
  pub many_types : length r.types ≤ m.types
  pub types : FitTypes m.list [] r.types
  pub next : r.next ≤ m.next
  pub many_blocks : length r.blocks ≤ m.blocks
  pub entry : FitBlock (bounds m r) r.entry
  pub many_parameters : length r.parameters ≤ m.list
  pub parameters : FitNews (bounds m r) (unmarked r) r.parameters
  pub many_recorded : length r.recorded ≡ r.next
  pub recorded : Each (FitOption (FitType (bounds m r))) r.recorded
  pub blocks : FitBlocks m (bounds m r) 0 (marks (unmarked r) r.parameters) r.blocks
