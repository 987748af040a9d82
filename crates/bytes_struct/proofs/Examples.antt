-- The lookup by computation, in the type table Felt, Bool, Struct 9 of a Felt called 1 and a Bool called 2, Struct 8 of no
-- field, Struct 7 of sixteen fields, the first called 0, the second 65,535.
use Prim.Native.Nat.{ℕ}
use mathlib.Core.Path.{◌≡◌, refl}
use mathlib.Core.List.{List, [], ◌∷◌}
use mathlib.Core.Option.{Option, none, some}
use lib.ListN.{get_elem?}
use Rattle.mir.specs.MirType.{StructField, MirType}
use Rattle.mir.specs.Lookup.{struct_fields_of}
use Rattle.bytes_struct.specs.declared.FoundField.{FoundField}
use Rattle.bytes_struct.specs.FindField.{find_from, find_field}

-- a field called n, of type t
called : ℕ → ℕ → StructField
called n t = record { name = record { 0 = n }; part = record { 0 = t } }

sixteen : List StructField
sixteen =
    called 0 0 ∷ called 65535 1 ∷ called 20 0 ∷ called 21 1 ∷ called 22 0 ∷ called 23 1 ∷ called 24 0 ∷ called 25 1
    ∷ called 26 0 ∷ called 27 1 ∷ called 28 0 ∷ called 29 1 ∷ called 30 0 ∷ called 31 1 ∷ called 32 0 ∷ called 33 2 ∷ []

types : List MirType
types =
    MirType.Felt
    ∷ MirType.Bool
    ∷ MirType.Struct (record { 0 = 9 }) (called 1 0 ∷ called 2 1 ∷ [])
    ∷ MirType.Struct (record { 0 = 8 }) []
    ∷ MirType.Struct (record { 0 = 7 }) sixteen
    ∷ []

-- the name n in type t
find : ℕ → ℕ → Option FoundField
find t n = find_field (get_elem? types t) (record { 0 = n })

-- position, part type and number of fields
found : ℕ → ℕ → ℕ → Option FoundField
found k t m = some (record { position = k; part = record { 0 = t }; fields = m })

-- both fields
both_fields : find 2 2 ∷ find 2 1 ∷ [] ≡ found 1 1 2 ∷ found 0 0 2 ∷ []
unfolding called types find found find_field find_from struct_fields_of
both_fields = refl

-- absent: a name that the struct has not, and the struct's own; in a type that is no struct; in a struct of no fields; where there is no such type
absent_names : find 2 3 ∷ find 2 9 ∷ find 0 1 ∷ find 3 1 ∷ find 5 1 ∷ [] ≡ none ∷ none ∷ none ∷ none ∷ none ∷ []
unfolding called types find find_field find_from struct_fields_of
absent_names = refl

-- the first, the second, the last of sixteen, and none of them
of_sixteen : find 4 0 ∷ find 4 65535 ∷ find 4 33 ∷ find 4 34 ∷ [] ≡ found 0 0 16 ∷ found 1 1 16 ∷ found 15 2 16 ∷ none ∷ []
unfolding called sixteen types find found find_field find_from struct_fields_of
of_sixteen = refl
