-- Where the blocks of a routine stand, as the table of facts has it.
use Rattle.std.specs.Prelude.{ℕ, suc, ◌-◌, ◌≤◌, ◌<◌, ◌≡◌, List, Bool, length, get_or, drop}
use Rattle.bytes_wire.specs.Parse.{ok}
use Rattle.mir.specs.Syntax.{Block}
use Rattle.bytes_field.specs.declared.Bounds.{Bounds}
use Rattle.bytes_index.specs.Code.{no_block}
use Rattle.bytes_block.specs.Decode.{block_of}
use Rattle.bytes_block.specs.declared.Mosts.{Mosts}

-- a block that stands from one place to another, behind some instructions and definitions
pub data BlockAt (m : Mosts) (b : Bounds) (s : List ℕ) (from to : ℕ) (x : Block) : Type 0 where
  standing : (total : ℕ) (seen : List Bool) → block_of m b total seen (drop from s) ≡ ok x (to - from) → BlockAt m b s from to x

-- block k stands from place k of `starts` to place k + 1
pub record BlocksAt (m : Mosts) (b : Bounds) (s starts : List ℕ) (xs : List Block) : Type 0 where
  pub each : (k : ℕ) → k < length xs → BlockAt m b s (get_or starts k 0) (get_or starts (suc k) 0) (get_or xs k no_block)
  pub rises : (k : ℕ) → k < length xs → get_or starts k 0 ≤ get_or starts (suc k) 0
  pub within : (k : ℕ) → k ≤ length xs → get_or starts k 0 ≤ length s
