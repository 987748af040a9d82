-- What values are, by the kind of the value.
use Prim.Native.Nat.{ℕ, ◌≤◌, ◌<◌}
use mathlib.Core.Path.{◌≡◌, refl, sym}
use mathlib.Core.List.{List}
use mathlib.Core.Option.{Option}
use native.Mathlib.Omega.{arith}
use lib.ListN.{length}
use lib.Dec.{eqb}
use Rattle.std.specs.Prelude.{Some, None, Option as Answered}
use Rattle.std.specs.Option.{option_eq, is_some as has_some}
use Rattle.shelf.specs.contracts.LiteralsPartialEq.TheImpl.{eq-value}
use Rattle.shelf.specs.declared.Literals.{Literals}
use Rattle.shelf.specs.declared.Literals.TheVariants.{Integers, Booleans, Units}
use Rattle.shelf_rows.specs.Rows.{literals_number, Is}
use Rattle.bytes_wire.specs.WellFormed.{FitValue}
use Rattle.mir.specs.declared.TypeId.{TypeId}
use Rattle.mir.specs.declared.Value.{Value}
use Rattle.mir.specs.declared.ValueId.{ValueId}
use Rattle.bytes_field.specs.declared.Bounds.{Bounds}
use Rattle.bytes_sections.specs.Index.{RecordedAt}
use Rattle.mir.specs.Lookup.{is_some, Types, recorded_type}
use Rattle.rewrite_progress.specs.Ground.{Ground}
use Rattle.shelf.specs.Fits.{fits}
use Rattle.shelf.specs.Agrees.{is_index, is_condition, equal_types}
use Rattle.shelf_types.specs.Types.{value_kind}

-- an operand is one of the values
pub operand_fit : {next : ℕ} {x : Value} {v : ValueId} → FitValue next x → x ≡ Value.Operand v → v.0 < next
operand_fit {next} f e = let g : FitValue next (Value.Operand _) = rw e at f in g.0

-- a value's recorded type
pub given_type : {b : Bounds} {s types recorded : List ℕ} {τ : Types} {v : ValueId} (r : Answered TypeId) → Ground b s types recorded τ → v.0 < b.next → ((τ : Types) → RecordedAt recorded τ.recorded → length τ.recorded ≤ length recorded → v.0 < length τ.recorded → Is r (recorded_type τ v)) → Is r (recorded_type τ v)
given_type {τ} r g h f = f τ g.known.recorded_types g.known.long (omega (arith, g.values))

-- literals are the same where their numbers are
literals_eq : (a c : Answered Literals) → option_eq eq-value.it a c ≡ eqb (literals_number a) (literals_number c)
literals_eq None None = refl
literals_eq None (Some Integers) = refl
literals_eq None (Some Booleans) = refl
literals_eq None (Some Units) = refl
literals_eq (Some Integers) None = refl
literals_eq (Some Integers) (Some Integers) = refl
literals_eq (Some Integers) (Some Booleans) = refl
literals_eq (Some Integers) (Some Units) = refl
literals_eq (Some Booleans) None = refl
literals_eq (Some Booleans) (Some Integers) = refl
literals_eq (Some Booleans) (Some Booleans) = refl
literals_eq (Some Booleans) (Some Units) = refl
literals_eq (Some Units) None = refl
literals_eq (Some Units) (Some Integers) = refl
literals_eq (Some Units) (Some Booleans) = refl
literals_eq (Some Units) (Some Units) = refl

pub same_literals : (a c : Answered Literals) {k m : ℕ} → literals_number a ≡ k → literals_number c ≡ m → option_eq eq-value.it a c ≡ eqb k m
same_literals a c e f = rw (sym e, sym f) (literals_eq a c)

-- whether there is a recorded type
pub known_type : (r : Answered TypeId) (o : Option TypeId) → Is r o → has_some r ≡ is_some o
unfolding is_some
known_type None o e = rw (sym e) refl
known_type (Some t) o e = rw (sym e) refl

-- an index and a condition, by the literals that fit
pub index_kind : (τ : Types) (x : Value) → eqb (value_kind τ x) 1 ≡ is_index τ x
unfolding is_index
index_kind τ (Value.Literal l) = refl
index_kind τ (Value.Operand v) = refl
index_kind τ Value.Error = refl

pub condition_kind : (τ : Types) (x : Value) → eqb (value_kind τ x) 2 ≡ is_condition τ x
unfolding is_condition
condition_kind τ (Value.Literal l) = refl
condition_kind τ (Value.Operand v) = refl
condition_kind τ Value.Error = refl

-- two values, the second of which is an operand
pub equal_operand : (τ : Types) (x : Value) (w : ValueId) → equal_types τ x (Value.Operand w) ≡ fits τ x (recorded_type τ w)
unfolding equal_types fits
equal_operand τ (Value.Literal l) w = refl
equal_operand τ (Value.Operand v) w = refl
equal_operand τ Value.Error w = refl
