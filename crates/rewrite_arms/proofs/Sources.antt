-- What is found of a value: the value itself, whether it is tracked, its type, and a part of it.
use Prim.Native.Nat.{ℕ, ◌<◌}
use mathlib.Core.Path.{◌≡◌, refl, ap, ◌∙◌, sym}
use mathlib.Core.List.{List}
use mathlib.Core.Bool.{not}
use mathlib.Core.Bool as B
use mathlib.Core.Option.{Option, none, some}
use native.Mathlib.Omega.{arith}
use lib.ListN.{length, get_or, get_elem?}
use lib.Dec.{eqb}
use denote.Enum.Bare.{sameb}
use Rattle.mir.specs.contracts.shape.Shape.{the_type}
use Rattle.mir.specs.declared.shape.Shape.{Shape}
use Rattle.mir.specs.Shape.{number_of_shape}
use Rattle.mir.specs.declared.Value.{Value}
use Rattle.mir.specs.declared.ValueId.{ValueId}
use Rattle.mir.specs.declared.TypeId.{TypeId}
use Rattle.mir.specs.MirType.{MirType, Felt, Bool, U32, Tuple, Struct, FixedArray, Pointer, Function, Unit, Error, Unknown}
use Rattle.bytes_field.specs.declared.Bounds.{Bounds}
use Rattle.bytes_sections.specs.Index.{recorded_from}
use Rattle.mir.specs.Operand.{operand_of}
use Rattle.mir.specs.Lookup.{Types, row_of, recorded_type, value_row, shape, is_tuple, is_struct, is_array, is_aggregate, is_some}
use Rattle.mir.specs.Parts.{or_else, struct_row}
use Rattle.rewrite.specs.State.{AggStates, state_of}
use Rattle.fold.specs.Tables.{Ground}
use Rattle.table.proofs.Elements.{some_at}
use Rattle.rewrite_chains.proofs.Fields.{recorded_of_lem}
use Rattle.rewrite_arms.specs.Decided.{SourceOf, found, nothing}
use Rattle.std.specs.Prelude.{Some, None, Option as Answered, unwrap_or}
use Rattle.std.specs.Bool.{then_some}
use Rattle.mir.specs.Option.{as_option}

-- the operand that a value is
pub operand_is : (x : Value) {v : ValueId} → Some v ≡ operand_of x → x ≡ Value.Operand v
operand_is (Value.Literal l) e = absurd (let z : ◌≡◌ {A = ℕ} 0 1 = cc in omega arith)
operand_is (Value.Operand u) {v} e = let z : u ≡ v = cc in rw z
operand_is Value.Error e = absurd (let z : ◌≡◌ {A = ℕ} 0 1 = cc in omega arith)

-- a literal, and Error, have no parts
pub no_operand : (S : AggStates) (x : Value) → None ≡ operand_of x → state_of S x ≡ none
unfolding state_of
no_operand S (Value.Literal l) e = refl
no_operand S (Value.Operand v) e = absurd (let z : ◌≡◌ {A = ℕ} 0 1 = cc in omega arith)
no_operand S Value.Error e = refl

-- an operand has them where it is marked
marked_source : (S : AggStates) (v : ValueId) (o : Option (List Value)) → S v.0 ≡ o → is_some o ≡ B.true → SourceOf S (S v.0) (Some v)
unfolding is_some
marked_source S v none f e = absurd (let z : ◌≡◌ {A = ℕ} 0 1 = cc in omega arith)
marked_source S v (some xs) f e = found v xs f f

clear_source : (S : AggStates) (v : ValueId) (o : Option (List Value)) → S v.0 ≡ o → is_some o ≡ B.false → SourceOf S (S v.0) None
unfolding is_some
clear_source S v none f e = nothing f
clear_source S v (some xs) f e = absurd (let z : ◌≡◌ {A = ℕ} 0 1 = cc in omega arith)

pub operand_source : (S : AggStates) {x : Value} {v : ValueId} (m : B.Bool) → x ≡ Value.Operand v → m ≡ is_some (S v.0) → SourceOf S (state_of S x) (then_some m v)
unfolding state_of
operand_source S {x} {v} B.true e f = rw e (marked_source S v (S v.0) refl (sym f))
operand_source S {x} {v} B.false e f = rw e (clear_source S v (S v.0) refl (sym f))

-- a shape is Other, or is no Struct's, as its number says
pub is_other : (k : Shape) → not (sameb the_type k Shape.Other) ≡ not (eqb (number_of_shape k) 0)
is_other Shape.Other = refl
is_other Shape.Tuple = refl
is_other Shape.Struct = refl
is_other Shape.FixedArray = refl

pub not_struct : (k : Shape) → (k ≡ Shape.Struct → ⊥) → number_of_shape k ≡ 2 → ⊥
not_struct Shape.Other h e = omega arith
not_struct Shape.Tuple h e = omega arith
not_struct Shape.Struct h e = h refl
not_struct Shape.FixedArray h e = omega arith

-- the type of an instruction, and the row of it
shaped : (o : Option MirType) → not (eqb (shape o) 0) ≡ is_aggregate o
unfolding shape is_aggregate is_tuple is_struct is_array
shaped none = refl
shaped (some Felt) = refl
shaped (some Bool) = refl
shaped (some U32) = refl
shaped (some (Tuple ts)) = refl
shaped (some (Struct n fs)) = refl
shaped (some (FixedArray t size)) = refl
shaped (some (Pointer t)) = refl
shaped (some (Function ps r)) = refl
shaped (some Unit) = refl
shaped (some Error) = refl
shaped (some Unknown) = refl

pub aggregate_shape : (τ : Types) (t : TypeId) (n : ℕ) → n ≡ shape (get_elem? τ.rows t.0) → not (eqb n 0) ≡ is_aggregate (row_of τ (some t))
unfolding row_of
aggregate_shape τ t n e = ap (λ m. not (eqb m 0)) e ∙ shaped (get_elem? τ.rows t.0)

-- the type of a value, as the code's table has it
module _ {b : Bounds} {s types recorded : List ℕ} {τ : Types} (g : Ground b s types recorded τ) (d : ValueId) (l : d.0 < b.next) {r : Option TypeId} (e : r ≡ recorded_from (get_or recorded d.0 0)) where
  recorded_is : r ≡ recorded_type τ d
  recorded_is = recorded_of_lem b.list s types recorded τ d e g.known (omega (arith, g.values))

  -- a struct goes by its recorded type
  pub row_recorded : (named : TypeId) {t : TypeId} → r ≡ some t → struct_row τ d named ≡ row_of τ (some t)
  unfolding struct_row value_row row_of or_else recorded_type
  row_recorded named {t} f =
      let z : recorded_type τ d ≡ some t = sym recorded_is ∙ f in
      let w : t.0 < length τ.rows = omega (arith, g.rows, g.typed d.0 t z) in
      rw (z, some_at τ.rows t.0 MirType.Unit w)

  -- and where none is recorded by the named one
  pub row_named : (named : TypeId) → r ≡ none → struct_row τ d named ≡ row_of τ (some named)
  unfolding struct_row value_row row_of or_else recorded_type
  row_named named f = let z : recorded_type τ d ≡ none = sym recorded_is ∙ f in rw z

-- a struct goes by its recorded type, and where none is recorded by the named one
pub row_found : {b : Bounds} {s types recorded : List ℕ} {τ : Types} (g : Ground b s types recorded τ) (d : ValueId) (l : d.0 < b.next) (r : Answered TypeId) → as_option r ≡ recorded_from (get_or recorded d.0 0) → (named : TypeId) → struct_row τ d named ≡ row_of τ (some (unwrap_or r named))
row_found g d l (Some t) e named = row_recorded g d l e named refl
row_found g d l None e named = row_named g d l e named refl
