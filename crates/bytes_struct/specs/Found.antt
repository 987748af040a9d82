-- The promises of the lookup.
use Rattle.std.specs.Prelude.{ℕ, ◌+◌, ◌*◌, ◌≡◌, Bool, List, length, Option, eqb}
use Rattle.std.specs.List.{find, range_with_len}
use Rattle.std.proofs.Math.Option.{some}
use Rattle.std.proofs.Math.ListN.{get_elem?}
use Rattle.bytes_wire.specs.Number.{at16}
use Rattle.bytes_wire.specs.Parse.{ok}
use Rattle.mir.specs.declared.NameId.{NameId}
use Rattle.mir.specs.declared.TypeId.{TypeId}
use Rattle.mir.specs.MirType.{MirType}
use Rattle.mir.specs.Option.{as_option}
use Rattle.bytes_types.specs.Decode.{type_of}
use Rattle.bytes_types.specs.Index.{TypesAt}
use Rattle.bytes_struct.specs.declared.FoundField.{FoundField}
use Rattle.bytes_struct.specs.FindField.{find_field}
use Rattle.bytes_struct.specs.Fields.{first_name}

-- whether field i of the struct type whose bytes are `row` has a name, and the first of n fields that has it
abbrev pub has_name : List ℕ → NameId → ℕ → Bool
has_name row name i = eqb name.0 (at16 row (first_name + 4 * i))

abbrev pub first_named : List ℕ → NameId → ℕ → Option ℕ
first_named row name n = find (has_name row name) (range_with_len 0 n)

-- in the type whose bytes are `row`
abbrev pub FoundInRow : List ℕ → NameId → Option FoundField → Type 0
FoundInRow row name r =
    (most own n : ℕ) (T : MirType)
    → type_of most own row ≡ ok T n
    → as_option r ≡ find_field (some T) name

-- in type t of those that stand at the places `types`
abbrev pub FoundIn : List ℕ → List ℕ → ℕ → TypeId → NameId → Option FoundField → Type 0
FoundIn s types many t name r =
    (most : ℕ) (ts : List MirType)
    → TypesAt most s types ts
    → length ts ≡ many
    → as_option r ≡ find_field (get_elem? ts t.0) name
