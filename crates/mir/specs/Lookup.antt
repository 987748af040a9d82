-- What is looked up of types and values: one level deep.
use Rattle.std.specs.Prelude.{ℕ, List, [], ◌∷◌, true, false, ◌||◌, get_or, eqb}
use Rattle.std.proofs.Math.Bool as B
use Rattle.std.proofs.Math.Option.{Option, none, some}
use Rattle.std.proofs.Math.ListN.{get_elem?}
use Rattle.mir.specs.declared.ValueId.{ValueId}
use Rattle.mir.specs.declared.TypeId.{TypeId}
use Rattle.mir.specs.declared.Literal.{Literal}
use Rattle.mir.specs.declared.Value.{Value}
use Rattle.mir.specs.MirType.{StructField, MirType, Felt, Bool, U32, Tuple, Struct, FixedArray, Pointer, Function, Unit, Error, Unknown}
use Rattle.mir.specs.Routine.{Routine}

-- what does not change while a routine is rewritten: its type table, and the recorded type of each value
pub record Types : Type 0 where
  pub rows : List MirType
  pub recorded : List (Option TypeId)

-- those of a routine
unfoldable pub types_in : Routine → Types
types_in r = record { rows = r.types; recorded = r.recorded }

-- the row of a type's number
unfoldable pub row_of : Types → Option TypeId → Option MirType
row_of τ none = none
row_of τ (some t) = get_elem? τ.rows t.0

unfoldable pub recorded_type : Types → ValueId → Option TypeId
recorded_type τ v = get_or τ.recorded v.0 none

-- function.rs, `get_value_type`
unfoldable pub value_row : Types → ValueId → Option MirType
value_row τ v = row_of τ (recorded_type τ v)

-- "only Tuple, Struct and FixedArray can be taken apart": 1, 2 and 3, and 0 for any other type or none
unfoldable pub shape : Option MirType → ℕ
shape none = 0
shape (some Felt) = 0
shape (some Bool) = 0
shape (some U32) = 0
shape (some (Tuple ts)) = 1
shape (some (Struct n fs)) = 2
shape (some (FixedArray t size)) = 3
shape (some (Pointer t)) = 0
shape (some (Function ps r)) = 0
shape (some Unit) = 0
shape (some Error) = 0
shape (some Unknown) = 0

unfoldable pub is_tuple : Option MirType → B.Bool
is_tuple t = eqb (shape t) 1

unfoldable pub is_struct : Option MirType → B.Bool
is_struct t = eqb (shape t) 2

unfoldable pub is_array : Option MirType → B.Bool
is_array t = eqb (shape t) 3

unfoldable pub is_aggregate : Option MirType → B.Bool
is_aggregate t = is_tuple t || (is_struct t || is_array t)

-- a struct's fields in its type's order; none of any other type
unfoldable pub struct_fields_of : Option MirType → List StructField
struct_fields_of none = []
struct_fields_of (some Felt) = []
struct_fields_of (some Bool) = []
struct_fields_of (some U32) = []
struct_fields_of (some (Tuple ts)) = []
struct_fields_of (some (Struct n fs)) = fs
struct_fields_of (some (FixedArray t size)) = []
struct_fields_of (some (Pointer t)) = []
struct_fields_of (some (Function ps r)) = []
struct_fields_of (some Unit) = []
struct_fields_of (some Error) = []
struct_fields_of (some Unknown) = []

-- the value is this operand
unfoldable pub is_operand : ValueId → Value → B.Bool
is_operand v (Value.Literal l) = false
is_operand v (Value.Operand w) = eqb w.0 v.0
is_operand v Value.Error = false

unfoldable pub is_integer : Value → B.Bool
is_integer (Value.Literal (Literal.Integer x)) = true
is_integer (Value.Literal (Literal.Boolean b)) = false
is_integer (Value.Literal Literal.Unit) = false
is_integer (Value.Operand v) = false
is_integer Value.Error = false

-- value.rs, `as_const_integer`
unfoldable pub as_const_integer : Value → Option ℕ
as_const_integer (Value.Literal (Literal.Integer x)) = some x
as_const_integer (Value.Literal (Literal.Boolean true)) = some 1
as_const_integer (Value.Literal (Literal.Boolean false)) = some 0
as_const_integer (Value.Literal Literal.Unit) = none
as_const_integer (Value.Operand v) = none
as_const_integer Value.Error = none

-- some element passes
unfoldable pub any : {A : Type 0} → (A → B.Bool) → List A → B.Bool
any p [] = false
any p (a ∷ xs) = p a || any p xs

-- there is one
unfoldable pub is_some : {A : Type 0} → Option A → B.Bool
is_some none = false
is_some (some a) = true

-- the next look-up, where the one before found something
unfoldable pub on_some : {A B : Type 0} → Option A → (A → Option B) → Option B
on_some none f = none
on_some (some a) f = f a
