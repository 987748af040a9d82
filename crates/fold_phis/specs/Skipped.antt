-- The phis of a block: whether it is skipped because of one, and how many stand in front.
use Rattle.std.specs.Prelude.{ℕ, ◌≡◌, List, Bool, ◌&&◌, ◌||◌, length, drop, get_or, eqb}
use Rattle.mir.specs.Syntax.{Instruction}
use Rattle.bytes_field.specs.declared.Bounds.{Bounds}
use Rattle.bytes_index.specs.declared.code.Code.{Code}
use Rattle.bytes_index.specs.declared.slots.Slots.{Slots}
use Rattle.bytes_index.specs.Table.{kind_in}
use Rattle.bytes_index.specs.Code.{InstructionsIn}
use Rattle.fold.specs.declared.Settings.{Settings}
use Rattle.mir.specs.Lookup.{Types}
use Rattle.mir.specs.Phis.{behind_phis}
use Rattle.fold.specs.Numbers.{tuple_shape, struct_shape}
use Rattle.fold.specs.Fold.{skipped}
use Rattle.fold.specs.Tables.{ShapesAt}
use Rattle.fold_scan.specs.Noted.{dest_in}

-- the kind of a Phi (mir's kind_number)
abbrev pub phi_kind : ℕ
phi_kind = 9

-- the instruction in a slot is a phi, and one of a tuple or struct, as the table and the shapes say
abbrev pub phi_in : List ℕ → ℕ → Bool
phi_in facts slot = eqb (kind_in facts slot) phi_kind

abbrev pub aggregate_shape : ℕ → Bool
aggregate_shape shp = eqb shp tuple_shape || eqb shp struct_shape

abbrev pub tells_phi : Code → List ℕ → ℕ → Bool
tells_phi code shapes slot =
    phi_in code.facts.now slot && aggregate_shape (get_or shapes (dest_in code.bytes.now code.facts.now slot) 0)

-- whether a block is skipped
abbrev pub Skips : Code → Slots → List ℕ → Bool → Type 0
Skips code slots shapes answer =
    (b : Bounds) (σ : Settings) (τ : Types) (eligible : List Bool) (is : List Instruction)
    → ShapesAt σ τ shapes eligible
    → length τ.recorded ≡ b.next
    → InstructionsIn b code.bytes.now code.facts.now slots.first is
    → length is ≡ slots.count
    → answer ≡ skipped τ is

-- how many phis stand in front of a block's instructions
abbrev pub PhisIn : List ℕ → Slots → ℕ → Type 0
PhisIn facts slots answer =
    (b : Bounds) (s : List ℕ) (is : List Instruction)
    → InstructionsIn b s facts slots.first is
    → length is ≡ slots.count
    → behind_phis is ≡ drop answer is
