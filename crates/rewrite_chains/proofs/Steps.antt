-- One step of a chain: which part, where it stands, and the operand that it is.
use Prim.Native.Nat.{ℕ, ◌≤◌}
use mathlib.Core.Path.{◌≡◌, refl, ap, ◌∙◌, sym}
use mathlib.Core.List.{List}
use mathlib.Core.Bool.{Bool, true, false}
use mathlib.Core.Option.{Option, none, some}
use native.Mathlib.Omega.{arith}
use mir.Val.{bool_byte}
use lib.ListN.{get_elem?, drop}
use Rattle.bytes_wire.specs.WellFormed.{Bytes, FitValue}
use Rattle.mir.specs.declared.Literal.{Literal}
use Rattle.mir.specs.declared.NameId.{NameId}
use Rattle.mir.specs.declared.Value.{Value}
use Rattle.mir.specs.declared.ValueId.{ValueId}
use Rattle.bytes_wire.proofs.Canon.{bytes_drop, value_fit}
use Rattle.mir.specs.declared.Projection.{Projection}
use Rattle.mir.specs.declared.Projection.TheVariants.{Field}
use Rattle.mir.specs.Operand.{operand_of}
use Rattle.mir.specs.Lookup.{Types, value_row, as_const_integer, on_some}
use Rattle.bytes_struct.specs.FindField.{find_field, position_in, field_index}
use Rattle.bytes_struct.specs.declared.FoundField.{FoundField}
use Rattle.rewrite.specs.State.{AggStates, step_index, step_part}
use Rattle.rewrite_parts.specs.Rows.{ValueAt, stands, There}
use Rattle.std.specs.Prelude.{Some, None, Option as Answered}
use Rattle.rewrite_chains.specs.Chained.{operand_in, LeadsTo}

-- a Boolean as a number
pub boolean_integer : (b : Bool) → some (bool_byte b) ≡ as_const_integer (Value.Literal (Literal.Boolean b))
unfolding as_const_integer
boolean_integer true = refl
boolean_integer false = refl

-- which part a field's name names
pub field_step : (τ : Types) (v : ValueId) (n : NameId) (x : Option FoundField) → x ≡ find_field (value_row τ v) n → position_in x ≡ step_index τ v (Field n)
unfolding step_index field_index
field_step τ v n x e = ap position_in e

-- the part that a projection names
module _ (τ : Types) (S : AggStates) (v : ValueId) (q : Projection) where
  -- no position
  pub step_nowhere : none ≡ step_index τ v q → step_part τ S (Value.Operand v) q ≡ none
  unfolding step_part on_some
  step_nowhere e = rw (← e) refl

  -- the part of its position
  pub step_at : (k : ℕ) → some k ≡ step_index τ v q → step_part τ S (Value.Operand v) q ≡ on_some (S v.0) (λ xs. get_elem? xs k)
  unfolding step_part on_some
  step_at k e = rw (← e) refl

-- what stands at a place
module _ (next : ℕ) {x y : Value} (e : y ≡ x) where
  -- a value that is no operand
  read_other : operand_in (some y) ≡ none → LeadsTo next (some x) None
  read_other f = record { told = sym f ∙ ap (λ w. operand_in (some w)) e; below = λ v g. absurd (let u : ◌≡◌ {A = ℕ} 0 1 = cc in omega arith) }

  -- an operand
  read_operand : {s : List ℕ} {at : ℕ} → Bytes s → next ≤ 65536 → ValueAt next s at x → (v : ValueId) → y ≡ Value.Operand v → LeadsTo next (some x) (Some v)
  read_operand {s} {at} b l h v f =
      let z : x ≡ Value.Operand v = sym e ∙ f in
      let fit : FitValue next x = elim h [ stands n g ↦ value_fit next (drop at s) (bytes_drop s at b) g l ] in
      let w : FitValue next (Value.Operand v) = rw z at fit in
      record {
        told = rw z;
        below = λ u g. let i : u ≡ v = cc in rw i w.0;
      }

-- whichever it is
pub read_value : (next : ℕ) {x : Value} (y : Value) → y ≡ x → {s : List ℕ} {at : ℕ} → Bytes s → next ≤ 65536 → ValueAt next s at x → LeadsTo next (some x) (operand_of y)
read_value next (Value.Literal l) e b h v = read_other next e refl
read_value next (Value.Operand u) e b h v = read_operand next e b h v u refl
read_value next Value.Error e b h v = read_other next e refl

-- from a part to the operand that it is
pub part_some : {next : ℕ} {s : List ℕ} {o : Option Value} {place : ℕ} {w : Answered ValueId} → There next s o place → ((x : Value) → ValueAt next s place x → LeadsTo next (some x) w) → LeadsTo next o w
part_some h g = rw h.is (g h.value h.stands)
