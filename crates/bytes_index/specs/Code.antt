-- What the rows of the table say of a routine's code.
use Rattle.std.specs.Prelude.{ℕ, suc, ◌+◌, ◌-◌, ◌≤◌, ◌<◌, ◌≡◌, List, [], false, length, get_or, drop}
use Rattle.std.proofs.Math.Option.{none}
use Rattle.bytes_wire.specs.Parse.{ok}
use Rattle.mir.specs.Syntax.{Instruction, InstructionKind, Terminator, Block}
use Rattle.bytes_field.specs.Decode.{instruction_of, terminator_of}
use Rattle.mir.specs.Reads.{reads, terminator_reads, kind_number}
use Rattle.bytes_field.specs.declared.Bounds.{Bounds}
use Rattle.bytes_index.specs.declared.slots.Slots.{Slots}
use Rattle.bytes_index.specs.Table.{starts_in, place_in, end_in, kind_in, ReadsIn}

-- what stands past the last instruction, and past the last block
abbrev pub no_instruction : Instruction
no_instruction = record { meta = record { span = none; expression = none; comment = none }; kind = InstructionKind.Nop }

abbrev pub no_block : Block
no_block = record { instructions = []; terminator = Terminator.Unreachable }

-- an instruction's row: it is read from its place to its end, whatever was defined before
pub record InstructionIn (b : Bounds) (s facts : List ℕ) (slot : ℕ) (i : Instruction) : Type 0 where
  pub read : instruction_of b [] false (drop (place_in facts slot) s) ≡ ok i (end_in facts slot - place_in facts slot)
  pub rises : place_in facts slot ≤ end_in facts slot
  pub within : end_in facts slot ≤ length s
  pub kind : kind_in facts slot ≡ kind_number i.kind
  pub reads_in : ReadsIn facts slot (reads i.kind)

-- a terminator's row (its kind is not kept)
pub record TerminatorIn (b : Bounds) (s facts : List ℕ) (slot : ℕ) (t : Terminator) : Type 0 where
  pub read : terminator_of b (drop (place_in facts slot) s) ≡ ok t (end_in facts slot - place_in facts slot)
  pub rises : place_in facts slot ≤ end_in facts slot
  pub within : end_in facts slot ≤ length s
  pub reads_in : ReadsIn facts slot (terminator_reads t)

-- instructions in the slots from `first` on
abbrev pub InstructionsIn : Bounds → List ℕ → List ℕ → ℕ → List Instruction → Type 0
InstructionsIn b s facts first is = (k : ℕ) → k < length is → InstructionIn b s facts (first + k) (get_or is k no_instruction)

-- a block: its instructions, and its terminator in the slot behind them
pub record BlockIn (b : Bounds) (s facts : List ℕ) (first : ℕ) (x : Block) : Type 0 where
  pub instructions : InstructionsIn b s facts first x.instructions
  pub terminator : TerminatorIn b s facts (first + length x.instructions) x.terminator

-- all blocks, one behind another
pub record CodeIn (b : Bounds) (s facts : List ℕ) (ks : List Block) : Type 0 where
  pub each : (k : ℕ) → k < length ks → BlockIn b s facts (get_or (starts_in facts) k 0) (get_or ks k no_block)
  pub next : (k : ℕ) → k < length ks → get_or (starts_in facts) (suc k) 0 ≡ get_or (starts_in facts) k 0 + suc (length (get_or ks k no_block).instructions)
  pub first : get_or (starts_in facts) 0 0 ≡ 0
  pub within : get_or (starts_in facts) (length ks) 0 ≤ 288

-- the slot of block k's terminator
abbrev pub LastSlot : List ℕ → ℕ → ℕ → Type 0
LastSlot facts k r =
    (b : Bounds) (s : List ℕ) (ks : List Block)
    → CodeIn b s facts ks
    → k < length ks
    → r ≡ get_or (starts_in facts) k 0 + length (get_or ks k no_block).instructions

-- the slots of block k's instructions
abbrev pub SlotsOf : List ℕ → ℕ → Slots → Type 0
SlotsOf facts k at =
    (b : Bounds) (s : List ℕ) (ks : List Block)
    → CodeIn b s facts ks
    → k < length ks
    → (at.first ≡ get_or (starts_in facts) k 0) × (at.count ≡ length (get_or ks k no_block).instructions)
