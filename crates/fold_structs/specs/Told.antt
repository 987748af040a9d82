-- Which MakeStructs pass their conditions: what the code finds it by.
use Rattle.std.specs.Prelude.{ℕ, ◌≤◌, ◌≡◌, List, [], Bool, false, cond, length, get_or}
use Rattle.std.proofs.Math.Option.{Option, none, some}
use Rattle.bytes_wire.specs.Parse.{ok}
use Rattle.mir.specs.declared.NameId.{NameId}
use Rattle.mir.specs.declared.TypeId.{TypeId}
use Rattle.mir.specs.MirType.{StructField, MirType}
use Rattle.bytes_types.specs.Index.{TypesAt}
use Rattle.mir.specs.Syntax.{FieldInit, Instruction}
use Rattle.mir.specs.Reads.{kind_number}
use Rattle.bytes_field.specs.Decode.{instruction_of}
use Rattle.bytes_index.specs.declared.code.Code.{Code}
use Rattle.bytes_index.specs.declared.slots.Slots.{Slots}
use Rattle.bytes_index.specs.Code.{InstructionIn, InstructionsIn}
use Rattle.fold.specs.declared.Settings.{Settings}
use Rattle.mir.specs.Lookup.{Types, row_of, is_struct, struct_fields_of, is_some}
use Rattle.fold.specs.Numbers.{struct_kind}
use Rattle.fold.specs.Family.{Marks}
use Rattle.fold.specs.Climb.{buildable}
use Rattle.mir.specs.Parts.{given, from_struct_fields}
use Rattle.fold.specs.Tables.{CodeGround}
use Rattle.rewrite_parts.specs.declared.listed.Listed.{Listed}
use Rattle.rewrite_parts.specs.Rows.{Inits}
use Rattle.bytes_struct.specs.Fields.{Names}
use Rattle.fold_scan.specs.Noted.{StructsAt}

-- each field of a struct's row is given
abbrev pub told_by : Option MirType → List FieldInit → Bool
told_by o fs = is_some (cond (is_struct o) (from_struct_fields fs (struct_fields_of o)) none)

-- the type that a struct's parts go by: the recorded one, or the named one where none is recorded
abbrev pub goes_by : Option TypeId → TypeId → TypeId
goes_by none named = named
goes_by (some t) named = t

-- whether a name is given among the inits of a MakeStruct
abbrev pub Gives : Listed → NameId → Bool → Type 0
Gives inits name answer =
    (next : ℕ) (fs : List FieldInit)
    → Inits next inits.bytes.now inits.at fs
    → length fs ≡ inits.count
    → answer ≡ is_some (given name fs)

-- whether each name of a struct's row is
abbrev pub AllGiven : Listed → List ℕ → Bool → Type 0
AllGiven inits row answer =
    (next : ℕ) (fs : List FieldInit) (ts : List StructField)
    → Inits next inits.bytes.now inits.at fs
    → length fs ≡ inits.count
    → Names row 4 ts
    → length ts ≡ get_or row 3 0
    → answer ≡ is_some (from_struct_fields fs ts)

-- whether type y is a struct whose fields are given in the MakeStruct with these fields of its own
abbrev pub TellsRow : Code → TypeId → List ℕ → Bool → Type 0
TellsRow code y own answer =
    (next most : ℕ) (τ : Types) (fs : List FieldInit)
    → TypesAt most code.bytes.now code.facts.now τ.rows
    → length τ.rows ≡ code.bounds.types
    → Inits next own 3 fs
    → length fs ≡ get_or own 2 0
    → answer ≡ told_by (row_of τ (some y)) fs

-- whether the MakeStruct of n bytes at t passes its conditions
abbrev pub Passes : Code → Settings → Marks → List ℕ → ℕ → Bool → Type 0
Passes code σ cross t n answer =
    (τ : Types) (i : Instruction)
    → CodeGround code τ
    → instruction_of code.bounds [] false t ≡ ok i n
    → kind_number i.kind ≡ struct_kind
    → answer ≡ buildable σ τ cross i.kind

-- whether the MakeStruct in a slot passes its conditions
abbrev pub StructTold : Code → Settings → Marks → ℕ → Bool → Type 0
StructTold code σ cross slot answer =
    (τ : Types) (i : Instruction)
    → CodeGround code τ
    → InstructionIn code.bounds code.bytes.now code.facts.now slot i
    → kind_number i.kind ≡ struct_kind
    → answer ≡ buildable σ τ cross i.kind

-- each instruction of a block has its flag
abbrev pub StructsTold : Code → Slots → Settings → Marks → List Bool → List Bool → Type 0
StructsTold code slots σ cross before behind =
    (τ : Types) (all : List Instruction)
    → CodeGround code τ
    → InstructionsIn code.bounds code.bytes.now code.facts.now slots.first all
    → length all ≡ slots.count
    → slots.count ≤ length before
    → StructsAt σ τ cross behind all
