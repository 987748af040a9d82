-- Blocks that are written are read back.
use Prim.Native.Nat.{ℕ, ◌+◌}
use mathlib.Core.List.{List, [], ◌∷◌}
use mathlib.Core.Bool.{Bool}
use lib.ListN.{length}
use Rattle.mir.specs.Syntax.{Block}
use Rattle.bytes_field.specs.Encode.{each_bytes}
use Rattle.bytes_field.specs.declared.Bounds.{Bounds}
use Rattle.bytes_laws.specs.WellFormed.{Wide}
use Rattle.bytes_laws.proofs.Back.{Back, then, last, alone}
use Rattle.bytes_block.specs.Decode.{block_marks}
use Rattle.bytes_block.specs.Encode.{block_bytes}
use Rattle.bytes_block.specs.WellFormed.{WideMosts}
use Rattle.bytes_block.specs.declared.Mosts.{Mosts}
use Rattle.bytes_block.proofs.RoundTrip.{block_back}
use Rattle.bytes_sections.specs.Decode.{blocks_of}
use Rattle.bytes_laws_whole.specs.WellFormed.{FitBlocks}

module _ (m : Mosts) (b : Bounds) (wm : WideMosts m) (w : Wide b) where
  -- blocks, each behind those before it
  pub blocks_back : (total : ℕ) (seen : List Bool) (xs : List Block) → FitBlocks m b total seen xs → Back (blocks_of m b total seen (length xs)) (each_bytes block_bytes xs) xs
  unfolding blocks_of
  blocks_back total seen [] h = alone
  blocks_back total seen (x ∷ xs) h =
      then _ (block_back m b wm w total seen x h.0) (last _ (blocks_back (total + length x.instructions) (block_marks seen x.instructions) xs h.1))
