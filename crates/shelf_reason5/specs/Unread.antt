-- Blocks that are walked one behind another in their bytes, and what they read of marked values.
use Rattle.std.specs.Prelude.{ℕ, ◌+◌, ◌≤◌, ◌<◌, ◌≡◌, List, [], ◌++◌, Bool, false, cond, ◌&&◌, length, get_or, drop, Option, Some, None, Result, Ok, Err}
use Rattle.bytes_wire.specs.Parse.{ok}
use Rattle.mir.specs.declared.ValueId.{ValueId}
use Rattle.mir.specs.Syntax.{Instruction, Block}
use Rattle.bytes_field.specs.Decode.{instruction_of, terminator_of}
use Rattle.mir.specs.Reads.{reads, terminator_reads}
use Rattle.bytes_field.specs.Encode.{each_bytes, instruction_bytes, terminator_bytes}
use Rattle.bytes_field.specs.declared.Bounds.{Bounds}
use Rattle.bytes_field.specs.declared.Scan.{Scan}
use Rattle.bytes_wire.specs.declared.Refusal.{Refusal}
use Rattle.mir.specs.Lists.{Each}
use Rattle.bytes_laws.specs.WellFormed.{Wide}
use Rattle.bytes_block.specs.Encode.{block_bytes}
use Rattle.bytes_block.specs.declared.Mosts.{Mosts}
use Rattle.bytes_laws_whole.specs.WellFormed.{FitBlocks}
use Rattle.shelf.specs.Lists.{clear}
use Rattle.shelf.specs.Reads.{clean, clean_terminator, with_debug}

-- the reads that stand in a buffer
pub record Buffered (buffer : List ℕ) (n : ℕ) (vs : List ValueId) : Type 0 where
  pub many : n ≡ length vs
  pub each : (j : ℕ) → j < n → get_or buffer j 0 ≡ (get_or vs j (record { 0 = 0 })).0

-- the marks have the value; past the marks it is not there
abbrev pub marked : List Bool → ℕ → Bool
marked ms v = get_or ms v false

-- a block reads no marked value
abbrev pub clean_block : List Bool → Block → Bool
clean_block ms k = clean with_debug (marked ms) k.instructions && clean_terminator (marked ms) k.terminator

-- what a walk answers: the place behind, or that a marked value is read
abbrev pub walked : Bool → ℕ → Option ℕ
walked c end = cond c (Some end) None

-- what a scan leaves whose reads stand in a buffer: of one that was refused nothing goes on
abbrev pub Judges : Result Scan Refusal → List ℕ → List Bool → Option ℕ → Type 0
Judges (Err e) buffer ms r = r ≡ None
Judges (Ok x) buffer ms r = (vs : List ValueId) → Buffered buffer x.reads vs → r ≡ walked (clear ms vs) x.size

-- an instruction's bytes are read as it, whatever was defined before and whatever follows; its reads are few
pub record Alone (b : Bounds) (i : Instruction) : Type 0 where
  pub read : (t : List ℕ) → instruction_of b [] false (instruction_bytes i ++ t) ≡ ok i (length (instruction_bytes i))
  pub few : length (reads i.kind) ≤ 32

-- and so are a block's
pub record Legible (b : Bounds) (x : Block) : Type 0 where
  pub many : length x.instructions < 65536
  pub each : Each (Alone b) x.instructions
  pub last : (t : List ℕ) → terminator_of b (terminator_bytes x.terminator ++ t) ≡ ok x.terminator (length (terminator_bytes x.terminator))
  pub few : length (terminator_reads x.terminator) ≤ 32

-- the blocks ks, as many as `many`, stand in `out` from `at` on, and their numbers stay below b
pub record Written (b : Bounds) (out : List ℕ) (at many : ℕ) (ks : List Block) : Type 0 where
  pub rest : List ℕ
  pub bytes : drop at out ≡ each_bytes block_bytes ks ++ rest
  pub as_many : length ks ≡ many
  pub mosts : Mosts
  pub total : ℕ
  pub seen : List Bool
  pub fits : FitBlocks mosts b total seen ks
  pub counted : mosts.block ≤ 65535
  pub wide : Wide b
  pub short : b.list + b.projections ≤ 30
