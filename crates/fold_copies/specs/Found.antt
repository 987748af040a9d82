-- What the code finds of a block's copies and dynamic bases.
use Rattle.std.specs.Prelude.{Some, None, Result, Option as Answered, ℕ, ◌≤◌, ◌≡◌, List, [], ◌++◌, length, drop, replicate}
use Rattle.std.proofs.Math.Option.{Option, none, some}
use Rattle.bytes_wire.specs.Parse.{ok, as_parse}
use Rattle.bytes_wire.specs.Number.{at16}
use Rattle.bytes_wire.specs.declared.Read.{Read}
use Rattle.bytes_wire.specs.declared.Refusal.{Refusal}
use Rattle.mir.specs.declared.Value.{Value}
use Rattle.mir.specs.Syntax.{Instruction}
use Rattle.mir.specs.declared.shape.Shape.{Shape}
use Rattle.mir.specs.Shape.{number_of_shape}
use Rattle.bytes_index.specs.declared.code.Code.{Code}
use Rattle.bytes_index.specs.Table.{row_at}
use Rattle.bytes_index.specs.Code.{InstructionIn, InstructionsIn}
use Rattle.bytes_types.specs.Index.{TypesAt}
use Rattle.mir.specs.Lookup.{Types, row_of, shape}
use Rattle.mir.specs.Most.{most_instructions}
use Rattle.fold.specs.Family.{Marks, accessed}
use Rattle.fold_family.specs.Copies.{any_shape, Copy, copied, assigned, copy_of, before, copies, table_size, RowsAt, dynamic_place, dynamics}
use Rattle.fold_copies.specs.declared.BlockCopy.{BlockCopy}

-- the shape that a copy asks for, as its row has it
abbrev pub asked_number : Answered Shape → ℕ
asked_number (Some k) = number_of_shape k
asked_number None = any_shape

-- what the code's answer says
abbrev pub as_copy : Answered BlockCopy → Option Copy
as_copy (Some c) = some (record { source = c.source.0; dest = c.dest.0; asked = asked_number c.asked })
as_copy None = none

-- the instruction of the slot whose row stands at the head of these numbers
pub record RowOf (code : Code) (row : List ℕ) (i : Instruction) : Type 0 where
  pub slot : ℕ
  pub behind : row ≡ drop (row_at slot) code.facts.now
  pub stands : InstructionIn code.bounds code.bytes.now code.facts.now slot i

-- what a scan of a block finds: its copies in the table, and its dynamic bases
pub record Scanned (table : List ℕ) (before after : Marks) (τ : Types) (is : List Instruction) : Type 0 where
  pub copied_all : RowsAt table (copies τ is)
  pub dynamic_all : after ≡ dynamics before is

-- the promises: of the copy of a value that was read as x, behind a dest at the head of u,
abbrev pub ValueCopy : List ℕ → Result (Read Value) Refusal → ℕ → Option Copy → Type 0
ValueCopy u x asked o = (v : Value) (n : ℕ) → as_parse x ≡ ok v n → o ≡ copied asked v (at16 u 0)

-- of an Assign's copy, whose fields are u and whose value was read as x: its type stands behind the value,
abbrev pub AssignCopy : Code → List ℕ → Result (Read Value) Refusal → Option Copy → Type 0
AssignCopy code u x o =
    (most : ℕ) (τ : Types) (v : Value) (n : ℕ)
    → TypesAt most code.bytes.now code.facts.now τ.rows
    → length τ.rows ≡ code.bounds.types
    → as_parse x ≡ ok v n
    → o ≡ assigned (shape (row_of τ (some (record { 0 = at16 (drop n u) 2 })))) v (at16 u 0)

-- of the copy that a row's instruction makes,
abbrev pub CopyFound : Code → List ℕ → Option Copy → Type 0
CopyFound code row o =
    (most : ℕ) (τ : Types) (i : Instruction)
    → TypesAt most code.bytes.now code.facts.now τ.rows
    → length τ.rows ≡ code.bounds.types
    → RowOf code row i
    → o ≡ copy_of τ i.kind

-- of noting a copy, if there is one, behind n others: r stand in the table then,
abbrev pub CopyNoted : Option Copy → ℕ → ℕ → List ℕ → List ℕ → Type 0
CopyNoted o n r before_it after =
    (cs : List Copy)
    → RowsAt before_it cs
    → length cs ≡ n
    → length before_it ≡ table_size
    → RowsAt after (cs ++ before o []) × (length (cs ++ before o []) ≡ r)

-- of the mark of the instruction's dynamic base,
abbrev pub DynamicNoted : Code → List ℕ → Marks → Marks → Type 0
DynamicNoted code row before after =
    (i : Instruction)
    → RowOf code row i
    → after ≡ dynamic_place before (accessed i.kind)

-- and of the scan of a block, the table being clear before
abbrev pub ScanCopies : Code → ℕ → ℕ → List ℕ → List ℕ → Marks → Marks → Type 0
ScanCopies code first count room table before after =
    (most : ℕ) (τ : Types) (is : List Instruction)
    → TypesAt most code.bytes.now code.facts.now τ.rows
    → length τ.rows ≡ code.bounds.types
    → InstructionsIn code.bounds code.bytes.now code.facts.now first is
    → length is ≡ count
    → count ≤ most_instructions
    → room ≡ replicate table_size 0
    → Scanned table before after τ is
