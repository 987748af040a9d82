-- What is known of an instruction that is kept, and what is promised of its readings.
use Rattle.std.specs.Prelude.{ℕ, ◌<◌, ◌≤◌, ◌≡◌, List, length, get_or}
use Rattle.bytes_wire.specs.WellFormed.{Bytes}
use Rattle.mir.specs.declared.Value.{Value}
use Rattle.mir.specs.Syntax.{Instruction}
use Rattle.bytes_field.specs.Encode.{instruction_bytes}
use Rattle.bytes_index.specs.declared.code.Code.{Code}
use Rattle.bytes_index.specs.Code.{InstructionIn}
use Rattle.bytes_emit.specs.Written.{Writes}
use Rattle.rewrite.specs.Readings.{readings}
use Rattle.rewrite_patch.specs.Reach.{most_readings}
use Rattle.rewrite_patch.specs.Places.{count_in}
use Rattle.rewrite_patch.specs.Chunks.{reading_places, with_numbers, Replaces}

-- the instruction in a slot of an accepted routine
pub record Kept (code : Code) (slot : ℕ) (i : Instruction) : Type 0 where
  pub bytes : Bytes code.bytes.now
  pub line : InstructionIn code.bounds code.bytes.now code.facts.now slot i
  pub listed : code.bounds.list ≤ 16
  pub projected : code.bounds.projections ≤ 8

-- the own fields t of an instruction of a kind have so many readings, where these are few
abbrev pub CountIn : List ℕ → ℕ → ℕ → Type 0
CountIn t kind r = count_in t kind < 256 → r ≡ count_in t kind

-- so many readings it has
abbrev pub Counts : Code → ℕ → ℕ → Type 0
Counts code slot r = (i : Instruction) → Kept code slot i → r ≡ length (readings i.kind)

-- and that is at most so many
abbrev pub Few : Code → ℕ → ℕ → Type 0
Few code slot r = (i : Instruction) → Kept code slot i → r ≤ most_readings

-- reading j is this
abbrev pub Reads : Code → ℕ → ℕ → Value → Type 0
Reads code slot j x = (i : Instruction) → Kept code slot i → j < length (readings i.kind) → x ≡ get_or (readings i.kind) j Value.Error

-- there the number of reading j stands if it is an operand
abbrev pub Places : Code → ℕ → ℕ → ℕ → Type 0
Places code slot j r = (i : Instruction) → Kept code slot i → j < length (readings i.kind) → r ≡ get_or (reading_places i) j 0

-- where the instruction was written from `to` on, and the numbers replace operands, it stands there with them in their places
abbrev pub NumbersPut : Code → ℕ → ℕ → List ℕ → List ℕ → List ℕ → Type 0
NumbersPut code slot to nums before after =
    (i : Instruction) (out : List ℕ) (end : ℕ)
    → Kept code slot i
    → Replaces (readings i.kind) nums
    → Writes (instruction_bytes i) out before to end
    → Writes (instruction_bytes (with_numbers i nums)) out after to end
