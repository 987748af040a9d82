-- Numbers that the choice of builds goes by, of which contracts speak. (mir's src/kind.rt and src/shape.rt have the same.)
use Rattle.std.specs.Prelude.{ℕ}

-- the kinds of a Call and of the three builds (mir's kind_number)
abbrev pub call_kind : ℕ
call_kind = 3

abbrev pub tuple_kind : ℕ
tuple_kind = 10

abbrev pub struct_kind : ℕ
struct_kind = 12

abbrev pub array_kind : ℕ
array_kind = 16

-- the shapes of a Tuple, a Struct and a FixedArray (mir's shape)
abbrev pub tuple_shape : ℕ
tuple_shape = 1

abbrev pub struct_shape : ℕ
struct_shape = 2

abbrev pub array_shape : ℕ
array_shape = 3
