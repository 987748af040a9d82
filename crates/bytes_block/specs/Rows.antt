-- What reading a block leaves in the table of facts (index's Table says what stands where).
use Rattle.std.specs.Prelude.{ℕ, suc, ◌+◌, ◌*◌, ◌%◌, ◌≤◌, ◌<◌, ◌≡◌, List, Bool, false, length, get_or, drop, set}
use Rattle.bytes_wire.specs.Parse.{Parse, ok, map_parse, later}
use Rattle.bytes_wire.specs.WellFormed.{Bytes}
use Rattle.mir.specs.Syntax.{Instruction, Terminator, Block}
use Rattle.bytes_field.specs.Decode.{terminator_of}
use Rattle.bytes_field.specs.Walk.{unit}
use Rattle.bytes_field.specs.declared.Bounds.{Bounds}
use Rattle.bytes_laws.specs.WellFormed.{Wide}
use Rattle.bytes_index.specs.Code.{InstructionsIn, TerminatorIn, BlockIn}
use Rattle.bytes_block.specs.Decode.{block_marks, instructions_of, block_of, Passed, passed}
use Rattle.bytes_block.specs.declared.Mosts.{Mosts}

-- a row that begins at place p, its reads aside: from which place to which it goes, its kind, how many reads
abbrev pub row_ended : List ℕ → ℕ → ℕ → ℕ → ℕ → ℕ → List ℕ
row_ended facts p from to kind many = set (set (set (set facts p (from % 65536)) (p + 1) (to % 65536)) (p + 2) kind) (p + 3) (many % 65536)

-- the first n numbers of a table stay, and so does its length
pub record Kept (n : ℕ) (before after : List ℕ) : Type 0 where
  pub long : length after ≡ length before
  pub same : (j : ℕ) → j < n → get_or after j 0 ≡ get_or before j 0

-- where rows tell all: the bytes are so short that places take 16 bits, and the bounds so small that reads take a row
pub record Tabular (b : Bounds) (s : List ℕ) : Type 0 where
  pub bytes : Bytes s
  pub short : length s < 65536
  pub wide : Wide b
  pub listed : b.list ≤ 16
  pub projected : b.projections ≤ 8

-- `slots` rows from slot `first` on stand in a table
abbrev pub Room : List ℕ → ℕ → ℕ → Type 0
Room facts first slots = 387 + 20 * (first + slots) ≤ length facts

-- what is read leaves the table in front of slot `first` as it was, and where there is room the rows there are those of it
pub record Filled (b : Bounds) (s : List ℕ) (first slots : ℕ) (before facts : List ℕ) (Rows : Type 0) : Type 0 where
  pub kept : Kept (387 + 20 * first) before facts
  pub rows : Tabular b s → Room before first slots → Rows

-- reading instructions: the answer with the marks behind them, and their rows; what a refusal leaves in the table is left free
pub record InstructionsRead (b : Bounds) (at count first : ℕ) (s : List ℕ) (seen marked : List Bool) (answer : Parse (Unit {0}))
    (before facts : List ℕ) : Type 0 where
  pub answers : map_parse (λ u. marked) answer ≡ later at (map_parse (block_marks seen) (instructions_of b seen false count (drop at s)))
  pub filled : (is : List Instruction) (n : ℕ)
      → instructions_of b seen false count (drop at s) ≡ ok is n
      → Filled b s first count before facts (InstructionsIn b s facts first is)

-- reading a terminator
pub record TerminatorRead (b : Bounds) (at slot : ℕ) (s : List ℕ) (answer : Parse (Unit {0})) (before facts : List ℕ) : Type 0 where
  pub answers : answer ≡ later at (map_parse unit (terminator_of b (drop at s)))
  pub filled : (e : Terminator) (n : ℕ) → terminator_of b (drop at s) ≡ ok e n → Filled b s slot 1 before facts (TerminatorIn b s facts slot e)

-- reading a block
pub record CodeRead (m : Mosts) (b : Bounds) (total at first : ℕ) (s : List ℕ) (seen : List Bool) (answer : Parse Passed) (before facts : List ℕ) : Type 0 where
  pub answers : answer ≡ later at (map_parse (passed seen) (block_of m b total seen (drop at s)))
  pub filled : (x : Block) (n : ℕ)
      → block_of m b total seen (drop at s) ≡ ok x n
      → Filled b s first (suc (length x.instructions)) before facts (BlockIn b s facts first x)
