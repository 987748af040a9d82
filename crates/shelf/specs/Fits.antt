-- Which values fit which types, and the types that places and parts have.
use Rattle.std.specs.Prelude.{ℕ, zero, suc, List, [], ◌∷◌, true, false, cond, ◌&&◌, eqb, length}
use Rattle.std.proofs.Math.Option.{Option, none, some}
use Rattle.std.proofs.Math.Bool as B
use Rattle.mir.specs.declared.TypeId.{TypeId}
use Rattle.mir.specs.declared.Literal.{Literal}
use Rattle.mir.specs.declared.Value.{Value}
use Rattle.mir.specs.MirType.{StructField, MirType, Felt, Bool, U32, Tuple, Struct, FixedArray, Pointer, Function, Unit, Error, Unknown}
use Rattle.mir.specs.declared.Projection.{Projection}
use Rattle.mir.specs.declared.Projection.TheVariants.{Index, Field}
use Rattle.mir.specs.Syntax.{FieldInit}
use Rattle.mir.specs.Lookup.{Types, row_of, recorded_type, is_tuple, is_array}
use Rattle.bytes_struct.specs.FindField.{field_type_of}
use Rattle.mir.specs.Parts.{given, part_type, part_count, counts}

-- 1, 2 and 3 for what an Integer, a Boolean and Unit fit
unfoldable pub literal_kind : Literal → ℕ
literal_kind (Literal.Integer x) = 1
literal_kind (Literal.Boolean b) = 2
literal_kind Literal.Unit = 3

-- the same numbers for the types; 0 for any other
unfoldable pub scalar_kind : Option MirType → ℕ
scalar_kind none = 0
scalar_kind (some Felt) = 1
scalar_kind (some Bool) = 2
scalar_kind (some U32) = 1
scalar_kind (some (Tuple ts)) = 0
scalar_kind (some (Struct n fs)) = 0
scalar_kind (some (FixedArray t size)) = 0
scalar_kind (some (Pointer t)) = 0
scalar_kind (some (Function ps r)) = 0
scalar_kind (some Unit) = 3
scalar_kind (some Error) = 0
scalar_kind (some Unknown) = 0

-- equal type numbers are equal types (refusal 5); no type is like none
unfoldable pub same_type : Option TypeId → Option TypeId → B.Bool
same_type none t = false
same_type (some t) none = false
same_type (some t) (some u) = eqb t.0 u.0

-- "Integer fits Felt and U32, Boolean Bool, Unit Unit"; an operand fits its recorded type; Error fits nothing
unfoldable pub fits : Types → Value → Option TypeId → B.Bool
fits τ (Value.Literal l) t = eqb (literal_kind l) (scalar_kind (row_of τ t))
fits τ (Value.Operand v) t = same_type (recorded_type τ v) t
fits τ Value.Error t = false

-- value k fits the type of k
unfoldable pub all_fit : Types → (ℕ → Option TypeId) → List Value → B.Bool
all_fit τ ts [] = true
all_fit τ ts (x ∷ xs) = fits τ x (ts zero) && all_fit τ (λ k. ts (suc k)) xs

-- the parts fit a type: its count, and each its part's type
unfoldable pub parts_fit : Types → Option TypeId → List Value → B.Bool
parts_fit τ t xs = counts (part_count (row_of τ t)) (length xs) && all_fit τ (part_type (row_of τ t)) xs

-- "Kinds and steps named for tuples, structs or arrays take those alone"; "Index walks arrays"
unfoldable pub step_type : Option MirType → Projection → Option TypeId
step_type row (Index x) = cond (is_array row) (part_type row 0) none
step_type row (Field n) = field_type_of row n
step_type row (Projection.Tuple k) = cond (is_tuple row) (part_type row k) none

-- the type at the end of a place
unfoldable pub place_type : Types → Option TypeId → List Projection → Option TypeId
place_type τ t [] = t
place_type τ t (p ∷ ps) = place_type τ (step_type (row_of τ t) p) ps

-- a field's value is given, and fits
unfoldable pub given_fits : Types → Option Value → TypeId → B.Bool
given_fits τ none t = false
given_fits τ (some x) t = fits τ x (some t)

-- each field of the type is given a value that fits it
unfoldable pub fields_fit : Types → List FieldInit → List StructField → B.Bool
fields_fit τ fs [] = true
fields_fit τ fs (s ∷ ss) = given_fits τ (given s.name fs) s.part && fields_fit τ fs ss

-- as many arguments as parameters, each of its type
unfoldable pub arguments_fit : Types → List Value → List TypeId → B.Bool
arguments_fit τ [] [] = true
arguments_fit τ [] (t ∷ ts) = false
arguments_fit τ (x ∷ xs) [] = false
arguments_fit τ (x ∷ xs) (t ∷ ts) = fits τ x (some t) && arguments_fit τ xs ts
