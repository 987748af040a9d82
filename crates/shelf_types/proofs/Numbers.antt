-- Types by their numbers: equal ones, those of parts, fields and steps.
use Prim.Native.Nat.{ℕ, ◌≤◌, ◌<◌}
use mathlib.Core.Path.{◌≡◌, refl, ap, sym}
use mathlib.Core.List.{List}
use mathlib.Core.Bool.{true, false, not, true≢false}
use mathlib.Core.Option.{Option, none, some}
use native.Mathlib.Omega.{arith}
use lib.ListN.{length, get_or}
use lib.Dec.{eqb}
use Rattle.mir.specs.declared.TypeId.{TypeId}
use Rattle.mir.specs.declared.ValueId.{ValueId}
use Rattle.mir.specs.declared.Projection.{Projection}
use Rattle.mir.specs.MirType.{MirType, Felt, Bool, U32, Tuple, Struct, FixedArray, Pointer, Function, Unit, Error, Unknown}
use Rattle.bytes_sections.specs.Index.{recorded_number, RecordedAt}
use Rattle.std.specs.Prelude.{Some, None, Option as Answered}
use Rattle.mir.specs.Option.{as_option}
use Rattle.mir.specs.contracts.shape.ShapePartialEq.TheImpl.{eq-value}
use Rattle.mir.specs.declared.shape.Shape.{Shape}
use Rattle.mir.specs.Shape.{number_of_shape}
use Rattle.mir.specs.Lookup.{is_some, Types, row_of, recorded_type, shape, is_tuple, is_struct, is_array, is_aggregate}
use Rattle.bytes_struct.specs.declared.FoundField.{FoundField}
use Rattle.bytes_struct.specs.FindField.{part_in}
use Rattle.shelf.specs.Fits.{step_type}
use Rattle.shelf.specs.Agrees.{is_scalar_type}

-- the table's entry for a value
pub recorded_at : (recorded : List ℕ) (τ : Types) (v : ValueId) → RecordedAt recorded τ.recorded → length τ.recorded ≤ length recorded → v.0 < length τ.recorded → get_or recorded v.0 0 ≡ recorded_number (recorded_type τ v)
unfolding recorded_type
recorded_at recorded τ v r l h = r v.0 h (omega arith)

-- shapes are the same where their numbers are
pub shape_eq : (a c : Shape) → eq-value.it a c ≡ eqb (number_of_shape a) (number_of_shape c)
shape_eq Shape.Other Shape.Other = refl
shape_eq Shape.Other Shape.Tuple = refl
shape_eq Shape.Other Shape.Struct = refl
shape_eq Shape.Other Shape.FixedArray = refl
shape_eq Shape.Tuple Shape.Other = refl
shape_eq Shape.Tuple Shape.Tuple = refl
shape_eq Shape.Tuple Shape.Struct = refl
shape_eq Shape.Tuple Shape.FixedArray = refl
shape_eq Shape.Struct Shape.Other = refl
shape_eq Shape.Struct Shape.Tuple = refl
shape_eq Shape.Struct Shape.Struct = refl
shape_eq Shape.Struct Shape.FixedArray = refl
shape_eq Shape.FixedArray Shape.Other = refl
shape_eq Shape.FixedArray Shape.Tuple = refl
shape_eq Shape.FixedArray Shape.Struct = refl
shape_eq Shape.FixedArray Shape.FixedArray = refl

-- no aggregate has shape 0
pub plain : (row : Option MirType) → eqb (shape row) 0 ≡ not (is_aggregate row)
unfolding shape is_tuple is_struct is_array is_aggregate
plain none = refl
plain (some Felt) = refl
plain (some Bool) = refl
plain (some U32) = refl
plain (some (Tuple ts)) = refl
plain (some (Struct n fs)) = refl
plain (some (FixedArray t k)) = refl
plain (some (Pointer t)) = refl
plain (some (Function ps r)) = refl
plain (some Unit) = refl
plain (some Error) = refl
plain (some Unknown) = refl

-- scalar types
pub scalar_some : {r : ℕ} (τ : Types) (o : Option TypeId) → is_some o ≡ true → r ≡ shape (row_of τ o) → eqb r 0 ≡ is_scalar_type τ o
unfolding is_scalar_type is_some
scalar_some τ none e f = absurd (true≢false (sym e))
scalar_some τ (some t) e f = rw f (plain (row_of τ (some t)))

pub scalar_none : (τ : Types) (o : Option TypeId) → is_some o ≡ false → is_scalar_type τ o ≡ false
unfolding is_scalar_type is_some
scalar_none τ none e = refl
scalar_none τ (some t) e = absurd (true≢false e)

-- the type of a field that is found, or none
pub part_of : (p : Answered FoundField) {r : Answered TypeId} → ((f : FoundField) → p ≡ Some f → r ≡ Some f.part) → (p ≡ None → r ≡ None) → as_option r ≡ part_in (as_option p)
part_of (Some f) h k = ap as_option (h f refl)
part_of None h k = ap as_option (k refl)

-- a step that is another leads where that does
pub same_step : (row : Option MirType) {p q : Projection} → Some p ≡ Some q → step_type row p ≡ step_type row q
same_step row {p} {q} h = let z : p ≡ q = cc in ap (step_type row) z
