-- Which arrays of a block are looked into by an index that is not known.
use Rattle.std.specs.Prelude.{ℕ, ◌≤◌, ◌<◌, ◌≡◌, List, Bool, false, length, get_or, replicate}
use Rattle.std.proofs.Math.Option.{some}
use Rattle.mir.specs.declared.ValueId.{ValueId}
use Rattle.mir.specs.Syntax.{Instruction}
use Rattle.mir.specs.declared.kind.Kind.{Kind}
use Rattle.mir.specs.Kind.{number_of_kind}
use Rattle.mir.specs.Reads.{kind_number}
use Rattle.mir.specs.Lookup.{Types}
use Rattle.mir.specs.Most.{most_values, most_instructions}
use Rattle.mir.specs.Phis.{behind_phis}
use Rattle.bytes_index.specs.Table.{kind_in}
use Rattle.bytes_index.specs.declared.code.Code.{Code}
use Rattle.bytes_index.specs.declared.slots.Slots.{Slots}
use Rattle.bytes_index.specs.Code.{no_instruction, InstructionIn, InstructionsIn}
use Rattle.fold.specs.declared.Settings.{Settings}
use Rattle.fold.specs.Numbers.{array_kind}
use Rattle.fold.specs.Family.{Marks, build_dest, has_dynamic_index}
use Rattle.fold.specs.Tables.{ShapesAt, CodeGround}
use Rattle.fold_family.specs.Search.{FamilyFound}
use Rattle.fold_looked.specs.declared.BuildFamily.{BuildFamily}
use Rattle.fold_looked.specs.declared.tables.Tables.{Tables}
use Rattle.fold_family.specs.Copies.{copies, RowsAt, dynamics}

-- each kind that a slot from one to another holds fails a test
abbrev pub NonePasses : (Kind → Type 0) → List ℕ → ℕ → ℕ → Type 0
NonePasses Fails facts from to = (slot : ℕ) (kind : Kind) → from ≤ slot → slot < to → kind_in facts slot ≡ number_of_kind kind → Fails kind

-- none of the slots from one to another holds a MakeFixedArray
abbrev pub NoneArrays : List ℕ → ℕ → ℕ → Type 0
NoneArrays facts from to = (slot : ℕ) → from ≤ slot → slot < to → kind_in facts slot ≡ array_kind → ⊥

-- what is known of a block where its families are found: its instructions, its copies in their table, and its dynamic marks
pub record Looking (τ : Types) (is : List Instruction) (table : List ℕ) (dynamic clear : Marks) (room : List ℕ) : Type 0 where
  pub rows : RowsAt table (copies τ is)
  pub short : length is ≤ most_instructions
  pub few : length τ.recorded ≤ most_values
  pub wide : most_values ≤ length room
  pub cleared : clear ≡ replicate (length τ.recorded) false
  pub dynamic_all : dynamic ≡ dynamics (replicate (length τ.recorded) false) is

-- what is found of the build of d among some instructions, m being the marks of its family and members their list
pub record BuildFound (τ : Types) (is : List Instruction) (d : ValueId) (m : Marks) (members : List ℕ) (r : BuildFamily) : Type 0 where
  pub dest : r.dest ≡ d
  pub family : FamilyFound τ is d m members r.found
  pub looked : r.looked ≡ has_dynamic_index τ d is

-- the promises: of what is found of the build in a slot, where the marks are clear before,
abbrev pub FindsBuild : Code → ℕ → Tables → Marks → Marks → List ℕ → List ℕ → BuildFamily → Type 0
FindsBuild code slot tables clear m room members r =
    (σ : Settings) (τ : Types) (is : List Instruction) (i : Instruction) (d : ValueId) (eligible : List Bool)
    → Looking τ is tables.copies.now tables.dynamic.now clear room
    → ShapesAt σ τ tables.shapes.now eligible
    → length τ.recorded ≡ code.bounds.next
    → InstructionIn code.bounds code.bytes.now code.facts.now slot i
    → build_dest i.kind ≡ some d
    → BuildFound τ is d m members r

-- of the answer that the build in a slot is looked into so, where that is an array, and of the marks, which are clear again behind it,
abbrev pub LooksAt : Code → ℕ → Tables → Marks → Marks → List ℕ → Bool → Type 0
LooksAt code slot tables clear after room r =
    (σ : Settings) (τ : Types) (is : List Instruction) (i : Instruction) (eligible : List Bool)
    → Looking τ is tables.copies.now tables.dynamic.now clear room
    → ShapesAt σ τ tables.shapes.now eligible
    → length τ.recorded ≡ code.bounds.next
    → InstructionIn code.bounds code.bytes.now code.facts.now slot i
    → (after ≡ clear) × ((d : ValueId) → kind_number i.kind ≡ array_kind → build_dest i.kind ≡ some d → r ≡ has_dynamic_index τ d is)

-- each array that is built among some instructions has its flag, by what stands behind their phis
pub record ArraysLooked (τ : Types) (all : List Instruction) (looked : List Bool) : Type 0 where
  pub each :
      (j : ℕ) (d : ValueId)
      → j < length all
      → kind_number (get_or all j no_instruction).kind ≡ array_kind
      → build_dest (get_or all j no_instruction).kind ≡ some d
      → get_or looked j false ≡ has_dynamic_index τ d (behind_phis all)

-- of the flags of a block whose copies and dynamic marks stand,
abbrev pub LooksAll : Code → Slots → List ℕ → List ℕ → Marks → Marks → List Bool → List Bool → Type 0
LooksAll code slots shapes table dynamic clear before after =
    (σ : Settings) (τ : Types) (all : List Instruction) (eligible : List Bool) (room : List ℕ)
    → Looking τ (behind_phis all) table dynamic clear room
    → ShapesAt σ τ shapes eligible
    → length τ.recorded ≡ code.bounds.next
    → InstructionsIn code.bounds code.bytes.now code.facts.now slots.first all
    → length all ≡ slots.count
    → slots.count ≤ most_instructions
    → most_instructions ≤ length before
    → ArraysLooked τ all after

-- and of the whole
abbrev pub FillsLooked : Code → Slots → List ℕ → List Bool → List Bool → Type 0
FillsLooked code slots shapes before after =
    (σ : Settings) (τ : Types) (all : List Instruction) (eligible : List Bool)
    → CodeGround code τ
    → ShapesAt σ τ shapes eligible
    → InstructionsIn code.bounds code.bytes.now code.facts.now slots.first all
    → length all ≡ slots.count
    → slots.count ≤ most_instructions
    → most_instructions ≤ length before
    → ArraysLooked τ all after
