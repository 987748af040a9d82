-- Which builds are folded and which blocks are skipped: the choice that the code makes, and what it finds it by.
use Rattle.std.specs.Prelude.{ℕ, ◌+◌, ◌≤◌, ◌<◌, ◌≡◌, List, Bool, false, length, get_or}
use Rattle.std.proofs.Math.Option.{some}
use Rattle.mir.specs.declared.ValueId.{ValueId}
use Rattle.mir.specs.Syntax.{Instruction, Block}
use Rattle.bytes_field.specs.declared.Bounds.{Bounds}
use Rattle.bytes_block.specs.declared.Mosts.{Mosts}
use Rattle.bytes_block.specs.WellFormed.{FitCode}
use Rattle.bytes_index.specs.Table.{starts_in, kind_in}
use Rattle.bytes_index.specs.declared.code.Code.{Code}
use Rattle.bytes_index.specs.declared.slots.Slots.{Slots}
use Rattle.bytes_index.specs.Code.{no_instruction, no_block, InstructionIn, InstructionsIn, CodeIn}
use Rattle.bytes_operands.specs.Fields.{list_values}
use Rattle.fold.specs.declared.Settings.{Settings}
use Rattle.mir.specs.Kind.{build_kind}
use Rattle.mir.specs.Reads.{kind_number}
use Rattle.mir.specs.Lookup.{Types}
use Rattle.mir.specs.Most.{most_values, most_slots, most_blocks, most_instructions}
use Rattle.fold.specs.Numbers.{array_kind}
use Rattle.fold.specs.Family.{Marks, build_dest, has_dynamic_index}
use Rattle.fold.specs.Climb.{build_of}
use Rattle.mir.specs.Phis.{behind_phis}
use Rattle.fold.specs.Fold.{skipped}
use Rattle.fold.specs.Tables.{ShapesAt, CodeGround, Coded}
use Rattle.fold_looked.specs.Looked.{ArraysLooked}
use Rattle.fold_climb.specs.Scanned.{graph_size, Scanned}
use Rattle.rewrite.specs.Run.{Choice, folds_in, folds_build}
use Rattle.rewrite_progress.specs.Chosen.{Follows}
use Rattle.fold_scan.specs.declared.ValueFacts.{ValueFacts}

-- the flags: one for each slot, and one for each block behind them
abbrev pub flags_size : ℕ
flags_size = most_slots + most_blocks

-- the choice that the Rust makes, where `cross` are the aggregates that are used across blocks
abbrev pub chosen_by : Settings → Types → Marks → Choice
chosen_by σ τ cross = record { folds = λ k. folds_in σ τ cross (behind_phis k.instructions); skips = λ k. skipped τ k.instructions }

-- a block that has a byte form behind some others: it defines no value twice
pub data Fitting (m : Mosts) (b : Bounds) (x : Block) : Type 0 where
  fitting : (total : ℕ) (seen : List Bool) → b.next ≤ length seen → FitCode m b total seen x → Fitting m b x

-- so does each block, and none has more than 128 instructions
pub record Fits (b : Bounds) (ks : List Block) : Type 0 where
  pub mosts : Mosts
  pub short : mosts.block ≤ most_instructions
  pub each : (k : ℕ) → k < length ks → Fitting mosts b (get_or ks k no_block)

-- none of the slots from one to another holds a build
abbrev pub NoneBuilds : List ℕ → ℕ → ℕ → Type 0
NoneBuilds facts from to = (slot : ℕ) → from ≤ slot → slot < to → build_kind (kind_in facts slot) ≡ false

-- none of the instructions is a build
abbrev pub Buildless : List Instruction → Type 0
Buildless all = (j : ℕ) (d : ValueId) → j < length all → build_dest (get_or all j no_instruction).kind ≡ some d → ⊥

-- no block has a build
abbrev pub AllBuildless : List ℕ → ℕ → Type 0
AllBuildless facts many =
    (b : Bounds) (s : List ℕ) (ks : List Block)
    → CodeIn b s facts ks
    → length ks ≡ many
    → (k : ℕ) → k < length ks → Buildless (get_or ks k no_block).instructions

-- what the tables of a block hold of its instructions behind the phis
pub record Seen (σ : Settings) (τ : Types) (cross : Marks) (is : List Instruction) (shapes graph : List ℕ) : Type 0 where
  pub eligible : List Bool
  pub facts : ShapesAt σ τ shapes eligible
  pub scanned : Scanned σ τ cross is graph

-- whether the build in a slot is folded, by those tables, where `looked` is right of an array
abbrev pub Answers : Settings → List ℕ → List ℕ → Bool → Code → ℕ → Bool → Type 0
Answers σ shapes graph looked code slot answer =
    (τ : Types) (cross : Marks) (is : List Instruction) (i : Instruction) (d : ValueId)
    → Seen σ τ cross is shapes graph
    → length τ.recorded ≡ code.bounds.next
    → code.bounds.next ≤ most_values
    → InstructionIn code.bounds code.bytes.now code.facts.now slot i
    → build_dest i.kind ≡ some d
    → build_of σ τ cross d is ≡ some i.kind
    → (kind_number i.kind ≡ array_kind → looked ≡ has_dynamic_index τ d is)
    → answer ≡ folds_build σ τ cross is (some i.kind)

-- a block's instructions: where they stand, few enough for the tables, and each build is the one of its dest
pub record Standing (σ : Settings) (τ : Types) (cross : Marks) (code : Code) (at : Slots) (all : List Instruction) : Type 0 where
  pub stands : InstructionsIn code.bounds code.bytes.now code.facts.now at.first all
  pub counted : length all ≡ at.count
  pub few : at.count ≤ most_instructions
  pub listed : (k : ℕ) → k < length all → length (list_values (get_or all k no_instruction).kind) ≤ 16
  pub once :
      (j : ℕ) (d : ValueId)
      → j < length all
      → build_dest (get_or all j no_instruction).kind ≡ some d
      → build_of σ τ cross d (behind_phis all) ≡ some (get_or all j no_instruction).kind

-- each build of a block has its flag, from `first` on
abbrev pub FoldedAt : Settings → Types → Marks → ℕ → List Instruction → List Bool → Type 0
FoldedAt σ τ cross first all choice =
    (j : ℕ) (d : ValueId)
    → j < length all
    → build_dest (get_or all j no_instruction).kind ≡ some d
    → get_or choice (first + j) false ≡ folds_in σ τ cross (behind_phis all) d

-- of the flags only those of slots from `first` on change
pub record Flagged (first : ℕ) (before behind : List Bool) : Type 0 where
  pub size : length behind ≡ length before
  pub old : (j : ℕ) → (first ≤ j → j < most_slots → ⊥) → get_or behind j false ≡ get_or before j false

-- what is decided of a block whose tables stand
abbrev pub DecidesAll : Settings → List ℕ → List ℕ → List Bool → Code → Slots → List Bool → List Bool → Type 0
DecidesAll σ shapes graph looked code at before behind =
    (τ : Types) (cross : Marks) (all : List Instruction)
    → Standing σ τ cross code at all
    → Seen σ τ cross (behind_phis all) shapes graph
    → ArraysLooked τ all looked
    → length τ.recorded ≡ code.bounds.next
    → code.bounds.next ≤ most_values
    → most_slots ≤ length before
    → FoldedAt σ τ cross at.first all behind

-- what the graph of a block holds behind its filling
abbrev pub FillsGraph : Settings → ValueFacts → Code → Slots → List ℕ → List ℕ → Type 0
FillsGraph σ values code at before behind =
    (τ : Types) (all : List Instruction)
    → CodeGround code τ
    → ShapesAt σ τ values.shapes.now values.eligible.now
    → Standing σ τ values.cross.now code at all
    → graph_size ≤ length before
    → Scanned σ τ values.cross.now (behind_phis all) behind

-- what is decided of a block with nothing but room for the graph
abbrev pub DecidesBlock : Settings → ValueFacts → ℕ → Code → Slots → List Bool → List Bool → Type 0
DecidesBlock σ values room code at before behind =
    (τ : Types) (all : List Instruction)
    → CodeGround code τ
    → ShapesAt σ τ values.shapes.now values.eligible.now
    → Standing σ τ values.cross.now code at all
    → graph_size ≤ room
    → most_slots ≤ length before
    → FoldedAt σ τ values.cross.now at.first all behind

-- what is chosen of block k: no other flag changes
pub record BlockChosen (c : Choice) (k first : ℕ) (x : Block) (before choice : List Bool) : Type 0 where
  pub old : (j : ℕ) → (first ≤ j → j < most_slots → ⊥) → (j ≡ most_slots + k → ⊥) → get_or choice j false ≡ get_or before j false
  pub skip : get_or choice (most_slots + k) false ≡ c.skips x
  pub fold :
      (j : ℕ) (d : ValueId)
      → c.skips x ≡ false
      → j < length x.instructions
      → build_dest (get_or x.instructions j no_instruction).kind ≡ some d
      → get_or choice (first + j) false ≡ c.folds x d

-- what is chosen of block k of a routine with nothing but room for the graph
abbrev pub ChoosesBlock : Settings → ValueFacts → ℕ → Code → ℕ → List Bool → List Bool → Type 0
ChoosesBlock σ values room code k before behind =
    (τ : Types) (ks : List Block)
    → Coded code.bounds code.bytes.now code.facts.now τ ks
    → Fits code.bounds ks
    → ShapesAt σ τ values.shapes.now values.eligible.now
    → k < length ks
    → graph_size ≤ room
    → flags_size ≤ length before
    → BlockChosen (chosen_by σ τ values.cross.now) k (get_or (starts_in code.facts.now) k 0) (get_or ks k no_block) before behind

-- what is chosen of all blocks
abbrev pub Chooses : Settings → ValueFacts → Code → List Bool → List Bool → Type 0
Chooses σ values code before behind =
    (τ : Types) (ks : List Block)
    → Coded code.bounds code.bytes.now code.facts.now τ ks
    → Fits code.bounds ks
    → ShapesAt σ τ values.shapes.now values.eligible.now
    → flags_size ≤ length before
    → Follows (chosen_by σ τ values.cross.now) code.facts.now behind ks
