-- Finding a field by its name (document 02, wish 4): the one lookup. Whatever goes by a field's name takes its answer from `find_field`.
use Rattle.std.specs.Prelude.{ℕ, suc, List, [], ◌∷◌, cond, length, eqb}
use Rattle.std.proofs.Math.Option.{Option, none, some}
use Rattle.mir.specs.declared.NameId.{NameId}
use Rattle.mir.specs.declared.TypeId.{TypeId}
use Rattle.mir.specs.MirType.{StructField, MirType}
use Rattle.mir.specs.Lookup.{struct_fields_of}
use Rattle.bytes_struct.specs.declared.FoundField.{FoundField}

-- What is found is "position, part type and number of fields together": where the field stands, its type, and how many fields the
-- struct has (src/lib.rt, `FoundField`).

-- the first field of that name among those from number `at` on, of `many` in all
unfoldable pub find_from : ℕ → ℕ → NameId → List StructField → Option FoundField
find_from at many n [] = none
find_from at many n (f ∷ fs) =
    cond (eqb n.0 f.name.0) (some (record { position = at; part = f.part; fields = many })) (find_from (suc at) many n fs)

-- sroa.rs 1411, `struct_field_index`, and 1066, where it is written out; "or that the name is absent": none, for a type that
-- is no struct and for no type too
unfoldable pub find_field : Option MirType → NameId → Option FoundField
find_field t n = find_from 0 (length (struct_fields_of t)) n (struct_fields_of t)

-- what is found, one by one
abbrev pub position_in : Option FoundField → Option ℕ
position_in none = none
position_in (some f) = some f.position

abbrev pub part_in : Option FoundField → Option TypeId
part_in none = none
part_in (some f) = some f.part

-- the position of a field
unfoldable pub field_index : Option MirType → NameId → Option ℕ
field_index t n = position_in (find_field t n)

-- the type of a field
unfoldable pub field_type_of : Option MirType → NameId → Option TypeId
field_type_of t n = part_in (find_field t n)
