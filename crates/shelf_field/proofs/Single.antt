-- What is read at single places.
use Prim.Native.Nat.{ℕ, ◌≤◌, ◌<◌}
use mathlib.Core.Path.{◌≡◌, refl, ap, ◌∙◌, sym}
use mathlib.Core.List.{List}
use mathlib.Core.Option.{Option, none}
use lib.ListN.{drop}
use Rattle.bytes_wire.specs.WellFormed.{Bytes, FitValue}
use Rattle.mir.specs.declared.ValueId.{ValueId}
use Rattle.mir.specs.declared.TypeId.{TypeId}
use Rattle.mir.specs.declared.NameId.{NameId}
use Rattle.mir.specs.declared.Value.{Value}
use Rattle.bytes_wire.proofs.Canon.{value_fit, bytes_drop}
use Rattle.std.specs.Prelude.{Some, None}
use Rattle.std.proofs.lemmas.Option.{none-some}
use Rattle.mir.specs.Operand.{operand_of}
use Rattle.rewrite.specs.Rebuild.{return_type}
use Rattle.rewrite_parts.specs.Rows.{ValueAt, stands}
use Rattle.mir.specs.Lookup.{Types, recorded_type}
use Rattle.shelf_field.specs.Fields.{TypeAt}

-- a value that stands somewhere fits
pub value_fits : (next : ℕ) (t : List ℕ) (at : ℕ) {x : Value} → Bytes t → next ≤ 65536 → ValueAt next t at x → FitValue next x
value_fits next t at h l (stands n f) = value_fit next (drop at t) (bytes_drop t at h) f l

-- elsewhere
pub type_moved : {types : ℕ} {t : List ℕ} {p q : ℕ} {y : TypeId} → p ≡ q → TypeAt types t q y → TypeAt types t p y
type_moved e u = rw e u

pub value_moved : {next : ℕ} {t : List ℕ} {p q : ℕ} {x : Value} → p ≡ q → ValueAt next t q x → ValueAt next t p x
value_moved e u = rw e u

-- a name, by its number
pub name_read : {r a : ℕ} {n : NameId} → r ≡ a → n.0 ≡ a → ◌≡◌ {A = NameId} (record { 0 = r }) n
name_read e h = ap (λ z. record { 0 = z }) (e ∙ sym h)

-- what is answered of a value that is read there, is answered of the value that stands there
pub as_read : {A : Type 0} (next : ℕ) {r x : Value} {a : A} (f : Value → A) → (r ≡ x) × FitValue next x → (FitValue next r → a ≡ f r) → a ≡ f x
as_read next {r} f v h = let w : FitValue next r = rw v.0 v.1 in h w ∙ ap f v.0

-- the recorded type of an operand, and of no operand
pub type_of_operand : (next : ℕ) {v : ValueId} {o : Option TypeId} (τ : Types) (x : Value) → Some v ≡ operand_of x → FitValue next x → (v.0 < next → o ≡ recorded_type τ v) → o ≡ return_type τ x
unfolding return_type
type_of_operand next τ (Value.Literal l) e g f = absurd (none-some _ (sym e))
type_of_operand next {v} τ (Value.Operand w) e g f = let z : v ≡ w = cc in let k : v.0 < next = rw z g.0 in f k ∙ ap (recorded_type τ) z
type_of_operand next τ Value.Error e g f = absurd (none-some _ (sym e))

pub type_of_none : (τ : Types) (x : Value) → None ≡ operand_of x → none ≡ return_type τ x
unfolding return_type
type_of_none τ (Value.Literal l) e = refl
type_of_none τ (Value.Operand v) e = absurd (none-some v e)
type_of_none τ Value.Error e = refl
