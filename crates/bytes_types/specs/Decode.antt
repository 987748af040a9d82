-- The decoder of the type table.
use Rattle.std.specs.Prelude.{ℕ, zero, suc, List, [], ◌∷◌, ◌++◌, false, not, ◌||◌, length, leb}
use Rattle.std.proofs.Math.Bool as B
use Rattle.bytes_wire.specs.Parse.{Parse, ok, and_then, map_parse, checked, tagged}
use Rattle.bytes_wire.specs.Number.{u16_of, u32_of}
use Rattle.bytes_wire.specs.declared.Cause.{Cause}
use Rattle.mir.specs.declared.NameId.{NameId}
use Rattle.bytes_field.specs.Decode.{type_id_of, name_id_of, count_of, list_of}
use Rattle.mir.specs.MirType.{StructField, MirType}
pub use Rattle.bytes_before.specs.Before.{has_name, same_bytes}
use Rattle.bytes_types.specs.Encode.{type_bytes}

-- "a field name twice in a struct" is refused at the second name; `names` are those before it
abbrev pub new_name_of : List NameId → List ℕ → Parse NameId
new_name_of names s = checked Cause.Repeated (λ x. not (has_name x names)) (name_id_of s)

unfoldable pub struct_fields : ℕ → List NameId → ℕ → List ℕ → Parse (List StructField)
struct_fields own names zero s = ok [] 0
struct_fields own names (suc k) s =
    and_then s (new_name_of names s) (λ n s.
    and_then s (type_id_of own s) (λ t s.
    map_parse (λ fs. record { name = n; part = t } ∷ fs) (struct_fields own (n ∷ names) k s)))

-- "Struct u16 name, u8 count, pairs of u16 name, u16 type"
unfoldable pub struct_of : ℕ → ℕ → List ℕ → Parse MirType
struct_of most own s =
    and_then s (name_id_of s) (λ n s.
    and_then s (count_of most s) (λ k s.
    map_parse (λ fs. MirType.Struct n fs) (struct_fields own [] k s)))

-- the kinds in `MirType` order; `own` is the type's own number, which its parts stay below, `most` the most of a list
abbrev pub type_kinds : ℕ → ℕ → List (List ℕ → Parse MirType)
type_kinds most own =
    (λ s. ok MirType.Felt 0)
    ∷ (λ s. ok MirType.Bool 0)
    ∷ (λ s. ok MirType.U32 0)
    ∷ (λ s. map_parse MirType.Tuple (list_of most (type_id_of own) s))
    ∷ (λ s. struct_of most own s)
    ∷ (λ s. and_then s (type_id_of own s) (λ t s. map_parse (λ size. MirType.FixedArray t size) (u32_of s)))
    ∷ (λ s. map_parse MirType.Pointer (type_id_of own s))
    ∷ (λ s. and_then s (list_of most (type_id_of own) s) (λ ps s. map_parse (λ r. MirType.Function ps r) (type_id_of own s)))
    ∷ (λ s. ok MirType.Unit 0)
    ∷ (λ s. ok MirType.Error 0)
    ∷ (λ s. ok MirType.Unknown 0)
    ∷ []

unfoldable pub type_of : ℕ → ℕ → List ℕ → Parse MirType
type_of most own s = tagged (type_kinds most own) s

-- two types are equal where their bytes are: the kind, the names and the part numbers
unfoldable pub has_type : MirType → List MirType → B.Bool
has_type t [] = false
has_type t (u ∷ us) = same_bytes (type_bytes t) (type_bytes u) || has_type t us

-- "a type equal to an earlier one" is refused at its kind
unfoldable pub type_seq : ℕ → List MirType → ℕ → List ℕ → Parse (List MirType)
type_seq most earlier zero s = ok [] 0
type_seq most earlier (suc k) s =
    and_then s (checked Cause.Repeated (λ t. not (has_type t earlier)) (type_of most (length earlier) s)) (λ t s.
    map_parse (λ ts. t ∷ ts) (type_seq most (earlier ++ (t ∷ [])) k s))

-- "u16 type count, types"
unfoldable pub types_of : ℕ → ℕ → List ℕ → Parse (List MirType)
types_of most_types most s = and_then s (checked Cause.TooMany (λ n. leb n most_types) (u16_of s)) (λ n s. type_seq most [] n s)

-- the rows of the kinds, in `MirType` order: the classes of their fields. A Struct has none. (Nothing here is believed: proofs/Rows.antt ties
-- each row to the decoder of its kind.)
abbrev pub type_rows : List ℕ
type_rows = 0x0 ∷ 0x0 ∷ 0x0 ∷ 0xb ∷ 0x0 ∷ 0x53 ∷ 0x3 ∷ 0x3b ∷ 0x0 ∷ 0x0 ∷ 0x0 ∷ []
