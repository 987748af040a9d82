-- Which builds are folded and which blocks are skipped, as the code keeps it: flags by slot, and behind them by block.
use Rattle.std.specs.Prelude.{ℕ, ◌+◌, ◌<◌, ◌≡◌, List, Bool, false, length, get_or}
use Rattle.std.proofs.Math.Option.{some}
use Rattle.mir.specs.declared.ValueId.{ValueId}
use Rattle.mir.specs.Syntax.{Block}
use Rattle.bytes_index.specs.Table.{starts_in}
use Rattle.bytes_index.specs.Code.{no_instruction, no_block}
use Rattle.fold.specs.Family.{build_dest}
use Rattle.rewrite.specs.Run.{Choice}

-- the flags of the slots go up to here: 256 instructions and 32 terminators
abbrev pub skips_from : ℕ
skips_from = 288

pub record Follows (c : Choice) (facts : List ℕ) (choice : List Bool) (ks : List Block) : Type 0 where
  pub skip : (k : ℕ) → k < length ks → get_or choice (skips_from + k) false ≡ c.skips (get_or ks k no_block)
  pub fold : (k j : ℕ) (d : ValueId)
      → k < length ks
      → c.skips (get_or ks k no_block) ≡ false
      → j < length (get_or ks k no_block).instructions
      → build_dest (get_or (get_or ks k no_block).instructions j no_instruction).kind ≡ some d
      → get_or choice (get_or (starts_in facts) k 0 + j) false ≡ c.folds (get_or ks k no_block) d
