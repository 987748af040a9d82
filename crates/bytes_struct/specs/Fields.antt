-- Where the fields of a struct type stand in its bytes.
use Rattle.std.specs.Prelude.{ℕ, ◌+◌, ◌*◌, ◌<◌, ◌≡◌, List, length, get_or}
use Rattle.bytes_wire.specs.Number.{at16}
use Rattle.mir.specs.MirType.{StructField}

-- in the bytes of a struct type, its kind first: where the first field's name stands, and its type
abbrev pub first_name : ℕ
first_name = 4

abbrev pub first_part : ℕ
first_part = 6

-- past the end of a list of fields
abbrev pub no_field : StructField
no_field = record { name = record { 0 = 0 }; part = record { 0 = 0 } }

-- the names of a struct type's fields stand four bytes apart from `names` on
pub record Names (s : List ℕ) (names : ℕ) (ts : List StructField) : Type 0 where
  pub each : (k : ℕ) → k < length ts → at16 s (names + 4 * k) ≡ (get_or ts k no_field).name.0

-- so do their types, from `parts` on
pub record PartTypes (s : List ℕ) (parts : ℕ) (ts : List StructField) : Type 0 where
  pub each : (k : ℕ) → k < length ts → at16 s (parts + 4 * k) ≡ (get_or ts k no_field).part.0
