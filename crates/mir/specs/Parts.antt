-- The parts that a type has, and those that a build is given.
use Rattle.std.specs.Prelude.{ℕ, List, [], ◌∷◌, true, false, cond, length, eqb}
use Rattle.std.proofs.Math.Option.{Option, none, some}
use Rattle.std.proofs.Math.Bool as B
use Rattle.std.proofs.Math.ListN.{get_elem?}
use Rattle.mir.specs.declared.TypeId.{TypeId}
use Rattle.mir.specs.declared.Value.{Value}
use Rattle.mir.specs.declared.ValueId.{ValueId}
use Rattle.mir.specs.declared.NameId.{NameId}
use Rattle.mir.specs.Syntax.{FieldInit}
use Rattle.mir.specs.MirType.{StructField, MirType, Felt, Bool, U32, Tuple, Struct, FixedArray, Pointer, Function, Unit, Error, Unknown}
use Rattle.mir.specs.Lookup.{Types, value_row, row_of, is_struct, struct_fields_of}

-- the type of a field that is there
unfoldable pub field_type : Option StructField → Option TypeId
field_type none = none
field_type (some f) = some f.part

-- the type of part k
unfoldable pub part_type : Option MirType → ℕ → Option TypeId
part_type none k = none
part_type (some Felt) k = none
part_type (some Bool) k = none
part_type (some U32) k = none
part_type (some (Tuple ts)) k = get_elem? ts k
part_type (some (Struct n fs)) k = field_type (get_elem? fs k)
part_type (some (FixedArray t size)) k = some t
part_type (some (Pointer t)) k = none
part_type (some (Function ps r)) k = none
part_type (some Unit) k = none
part_type (some Error) k = none
part_type (some Unknown) k = none

-- how many parts a type has; none where it is no aggregate
unfoldable pub part_count : Option MirType → Option ℕ
part_count none = none
part_count (some Felt) = none
part_count (some Bool) = none
part_count (some U32) = none
part_count (some (Tuple ts)) = some (length ts)
part_count (some (Struct n fs)) = some (length fs)
part_count (some (FixedArray t size)) = some size
part_count (some (Pointer t)) = none
part_count (some (Function ps r)) = none
part_count (some Unit) = none
part_count (some Error) = none
part_count (some Unknown) = none

-- that many parts, of a type that has parts
unfoldable pub counts : Option ℕ → ℕ → B.Bool
counts none k = false
counts (some n) k = eqb n k

-- the recorded row of a value that is an operand
unfoldable pub operand_row : Types → Value → Option MirType
operand_row τ (Value.Literal l) = none
operand_row τ (Value.Operand v) = value_row τ v
operand_row τ Value.Error = none

-- "Load or Store on a Pointer base" goes by this, of the base's recorded type
unfoldable pub is_pointer : Option MirType → B.Bool
is_pointer none = false
is_pointer (some Felt) = false
is_pointer (some Bool) = false
is_pointer (some U32) = false
is_pointer (some (Tuple ts)) = false
is_pointer (some (Struct n fs)) = false
is_pointer (some (FixedArray t size)) = false
is_pointer (some (Pointer t)) = true
is_pointer (some (Function ps r)) = false
is_pointer (some Unit) = false
is_pointer (some Error) = false
is_pointer (some Unknown) = false

-- the first value that is given for a name
unfoldable pub given : NameId → List FieldInit → Option Value
given n [] = none
given n (f ∷ fs) = cond (eqb f.name.0 n.0) (some f.value) (given n fs)

unfoldable pub cons_part : Option Value → Option (List Value) → Option (List Value)
cons_part none xs = none
cons_part (some x) none = none
cons_part (some x) (some xs) = some (x ∷ xs)

-- sroa.rs 1395, `AggState::from_struct_fields`: the parts in the type's order, none where a field is not given
unfoldable pub from_struct_fields : List FieldInit → List StructField → Option (List Value)
from_struct_fields fs [] = some []
from_struct_fields fs (t ∷ ts) = cons_part (given t.name fs) (from_struct_fields fs ts)

unfoldable pub or_else : {A : Type 0} → Option A → Option A → Option A
or_else none b = b
or_else (some a) b = some a

-- a struct's parts go by its recorded type, by the named one where none is recorded
unfoldable pub struct_row : Types → ValueId → TypeId → Option MirType
struct_row τ d t = or_else (value_row τ d) (row_of τ (some t))

-- sroa.rs 235 to 247, and again 887 to 898: the parts of a struct's build, none where it has no state
unfoldable pub struct_parts : Types → ValueId → List FieldInit → TypeId → Option (List Value)
struct_parts τ d fs t = cond (is_struct (struct_row τ d t)) (from_struct_fields fs (struct_fields_of (struct_row τ d t))) none
