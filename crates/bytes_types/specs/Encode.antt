-- The bytes of a type: "a u8 in `MirType` order (Felt 0 .. Unknown 10)", then its fields.
use Rattle.std.specs.Prelude.{ℕ, List, [], ◌∷◌, ◌++◌, length}
use Rattle.bytes_wire.specs.Number.{to_bytes}
use Rattle.bytes_field.specs.Encode.{each_bytes, list_bytes, type_id_bytes, name_id_bytes}
use Rattle.mir.specs.MirType.{StructField, MirType, Felt, Bool, U32, Tuple, Struct, FixedArray, Pointer, Function, Unit, Error, Unknown}

abbrev pub struct_field_bytes : StructField → List ℕ
struct_field_bytes f = name_id_bytes f.name ++ type_id_bytes f.part

unfoldable pub type_bytes : MirType → List ℕ
type_bytes Felt = 0 ∷ []
type_bytes Bool = 1 ∷ []
type_bytes U32 = 2 ∷ []
type_bytes (Tuple ts) = 3 ∷ list_bytes type_id_bytes ts
type_bytes (Struct n fs) = 4 ∷ (name_id_bytes n ++ list_bytes struct_field_bytes fs)
type_bytes (FixedArray t size) = 5 ∷ (type_id_bytes t ++ to_bytes 4 size)
type_bytes (Pointer t) = 6 ∷ type_id_bytes t
type_bytes (Function ps r) = 7 ∷ (list_bytes type_id_bytes ps ++ type_id_bytes r)
type_bytes Unit = 8 ∷ []
type_bytes Error = 9 ∷ []
type_bytes Unknown = 10 ∷ []

-- "u16 type count, types"
unfoldable pub types_bytes : List MirType → List ℕ
types_bytes ts = to_bytes 2 (length ts) ++ each_bytes type_bytes ts
