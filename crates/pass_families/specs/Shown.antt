-- What is shown of a build, of a block and of a routine.
use Rattle.std.specs.Prelude.{ℕ, ◌≤◌, ◌≡◌, List, [], ◌∷◌, Bool, cond, length}
use Rattle.std.proofs.Math.Option.{some}
use Rattle.mir.specs.declared.ValueId.{ValueId}
use Rattle.mir.specs.Syntax.{Instruction}
use Rattle.mir.specs.Lookup.{Types, types_in}
use Rattle.mir.specs.Most.{most_instructions}
use Rattle.bytes_index.specs.declared.code.Code.{Code}
use Rattle.bytes_index.specs.declared.slots.Slots.{Slots}
use Rattle.bytes_index.specs.Code.{InstructionIn, InstructionsIn}
use Rattle.fold.specs.declared.Settings.{Settings}
use Rattle.fold.specs.Family.{Marks, build_dest}
use Rattle.fold.specs.Tables.{ShapesAt, CodeGround}
use Rattle.fold_family.specs.Turns.{one}
use Rattle.fold_looked.specs.Looked.{Looking}
use Rattle.text.specs.Written.{Written}
use Rattle.text_lines.specs.Lines.{numbers_line}
use Rattle.pass_input.specs.Accepted.{Accepted}
use Rattle.fold_looked.specs.declared.BuildFamily.{BuildFamily}
use Rattle.fold_looked.specs.declared.tables.Tables.{Tables}
use Rattle.pass_families.specs.Lines.{marked_from, line_numbers, build_line, instruction_lines, block_lines}

-- the numbers of a line, by what was found
abbrev pub found_numbers : Bool → ℕ → ℕ → BuildFamily → Marks → List ℕ
found_numbers named k j r m = k ∷ j ∷ r.dest.0 ∷ r.found.members ∷ r.found.turns ∷ one r.looked ∷ cond named (marked_from 0 m) []

-- what is known of a block's instructions where its lines are put
pub record Prepared (code : Code) (tables : Tables) (τ : Types) (is : List Instruction) : Type 0 where
  pub settings : Settings
  pub eligible : List Bool
  pub clear : Marks
  pub room : List ℕ
  pub looking : Looking τ is tables.copies.now tables.dynamic.now clear room
  pub shaped : ShapesAt settings τ tables.shapes.now eligible
  pub values : length τ.recorded ≡ code.bounds.next

-- the promises: of the line of the build in a slot, which is instruction j of block k,
abbrev pub PutsBuild : Bool → Code → ℕ → ℕ → ℕ → Tables → List ℕ → List ℕ → ℕ → Type 0
PutsBuild named code k j slot tables before after r =
    (τ : Types) (is : List Instruction) (i : Instruction) (d : ValueId)
    → Prepared code tables τ is
    → InstructionIn code.bounds code.bytes.now code.facts.now slot i
    → build_dest i.kind ≡ some d
    → Written (numbers_line (line_numbers named τ is k j d)) 0 before after r

-- of any instruction's line, if it has one,
abbrev pub PutsOne : Bool → Code → ℕ → ℕ → ℕ → Tables → List ℕ → List ℕ → ℕ → Type 0
PutsOne named code k j slot tables before after r =
    (τ : Types) (is : List Instruction) (i : Instruction)
    → Prepared code tables τ is
    → InstructionIn code.bounds code.bytes.now code.facts.now slot i
    → Written (build_line named τ is k j (build_dest i.kind)) 0 before after r

-- of the lines of a block whose copies and dynamic marks stand,
abbrev pub PutsAll : Bool → Code → ℕ → Slots → Tables → List ℕ → List ℕ → ℕ → Type 0
PutsAll named code k slots tables before after r =
    (τ : Types) (is : List Instruction)
    → Prepared code tables τ is
    → InstructionsIn code.bounds code.bytes.now code.facts.now slots.first is
    → length is ≡ slots.count
    → Written (instruction_lines named τ is k 0 is) 0 before after r

-- of those of a block that is scanned,
abbrev pub PutsBlock : Bool → Code → ℕ → Slots → List ℕ → List ℕ → List ℕ → ℕ → Type 0
PutsBlock named code k slots shapes before after r =
    (σ : Settings) (τ : Types) (is : List Instruction) (eligible : List Bool)
    → CodeGround code τ
    → ShapesAt σ τ shapes eligible
    → InstructionsIn code.bounds code.bytes.now code.facts.now slots.first is
    → length is ≡ slots.count
    → slots.count ≤ most_instructions
    → Written (instruction_lines named τ is k 0 is) 0 before after r

-- of those of all blocks,
abbrev pub PutsBlocks : Bool → Code → List ℕ → List ℕ → List ℕ → ℕ → Type 0
PutsBlocks named code shapes before after r =
    (σ : Settings) (a : Accepted code.bytes.now code.facts.now code.bounds) (eligible : List Bool)
    → ShapesAt σ (types_in a.routine) shapes eligible
    → Written (block_lines named (types_in a.routine) 0 a.routine.blocks) 0 before after r

-- and of those of an accepted routine
abbrev pub PutsRoutine : Bool → Code → List ℕ → List ℕ → ℕ → Type 0
PutsRoutine named code before after r =
    (a : Accepted code.bytes.now code.facts.now code.bounds) → Written (block_lines named (types_in a.routine) 0 a.routine.blocks) 0 before after r
