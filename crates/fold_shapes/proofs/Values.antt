-- The shapes of values, one after another.
use Prim.Native.Nat.{ℕ, suc, ◌+◌, ◌≤◌, ◌<◌}
use mathlib.Core.Path.{◌≡◌, refl, ap, ◌∙◌, sym}
use mathlib.Core.List.{List}
use mathlib.Core.Bool.{Bool, false}
use mathlib.Core.Option.{Option, none, some}
use mathlib.Core.Logic.{⊎_elim}
use native.Mathlib.Nat.{eq-or-lt_of_le}
use native.Mathlib.Omega.{arith}
use lib.ListN.{length, get_or, set, length-set}
use lib.Seq.{get_or-set_same, get_or-set_other}
use Rattle.mir.specs.declared.TypeId.{TypeId}
use Rattle.bytes_index.specs.declared.code.Typing.{Typing}
use Rattle.bytes_sections.specs.Index.{recorded_number, recorded_from}
use Rattle.fold.specs.declared.Settings.{Settings}
use Rattle.mir.specs.Lookup.{Types, row_of, recorded_type, value_row, shape}
use Rattle.fold.specs.Scalarizable.{is_scalarizable}
use Rattle.fold.specs.Tables.{Known}
use Rattle.fold_shapes.specs.Shapes.{row_shape, row_eligible}
use Rattle.fold_shapes.proofs.Rows.{RowSays}

-- a recorded type's number, taken apart again
pub recorded_back : (o : Option TypeId) → recorded_from (recorded_number o) ≡ o
recorded_back none = refl
recorded_back (some t) = let z : t.0 + 1 ≡ suc t.0 = omega arith in ap recorded_from z

-- v values have their shapes
pub record Filling (typing : Typing) (σ : Settings) (shapes₀ : List ℕ) (eligible₀ : List Bool) (shapes : List ℕ) (eligible : List Bool) (v : ℕ) : Type 0 where
  pub long_shapes : length shapes ≡ length shapes₀
  pub long_eligible : length eligible ≡ length eligible₀
  pub shaped : (most : ℕ) (τ : Types) → Known most typing.code.bytes.now typing.code.facts.now typing.recorded.now τ → length τ.rows ≡ typing.code.bounds.types → length τ.recorded ≡ typing.code.bounds.next → typing.code.bounds.next ≤ length shapes₀ → (j : ℕ) → j < v → get_or shapes j 0 ≡ shape (value_row τ (record { 0 = j }))
  pub fits : (most : ℕ) (τ : Types) → Known most typing.code.bytes.now typing.code.facts.now typing.recorded.now τ → length τ.rows ≡ typing.code.bounds.types → length τ.recorded ≡ typing.code.bounds.next → typing.code.bounds.next ≤ length eligible₀ → (j : ℕ) → j < v → get_or eligible j false ≡ is_scalarizable σ (value_row τ (record { 0 = j }))

-- one more entry of a table
one_more : {A : Type 0} (xs : List A) (v : ℕ) (a d : A) (f : ℕ → A) → v < length xs → a ≡ f v → ((j : ℕ) → j < v → get_or xs j d ≡ f j) → (j : ℕ) → j < v + 1 → get_or (set xs v a) j d ≡ f j
one_more xs v a d f r e g j h =
    let y : j ≤ v = omega arith in
    ⊎_elim (λ q. rw q (get_or-set_same xs v a d r ∙ e)) (λ q. get_or-set_other xs v j a d (λ z. omega arith) ∙ g j q) (eq-or-lt_of_le y)

-- the next has them
pub fill_again : (typing : Typing) (σ : Settings) (shapes₀ : List ℕ) (eligible₀ : List Bool)
    (shapes : List ℕ) (eligible : List Bool) (v : ℕ) (o : Option TypeId) (row : List ℕ) (a : ℕ) (b : Bool) (shapes₁ : List ℕ) (eligible₁ : List Bool)
    → Filling typing σ shapes₀ eligible₀ shapes eligible v
    → v < typing.code.bounds.next
    → o ≡ recorded_from (get_or typing.recorded.now v 0)
    → RowSays typing.code o row
    → a ≡ row_shape row
    → b ≡ row_eligible σ row
    → shapes₁ ≡ set shapes v a
    → eligible₁ ≡ set eligible v b
    → Filling typing σ shapes₀ eligible₀ shapes₁ eligible₁ (v + 1)
unfolding value_row recorded_type
fill_again typing σ shapes₀ eligible₀ shapes eligible v o row a b shapes₁ eligible₁ u h e s f g p q =
    rw (p, q) record {
      long_shapes = length-set shapes v a ∙ u.long_shapes;
      long_eligible = length-set eligible v b ∙ u.long_eligible;
      shaped = λ most τ k m l r.
          let n : o ≡ get_or τ.recorded v none = e ∙ ap recorded_from (k.recorded_types v (omega arith) (omega (arith, k.long))) ∙ recorded_back _ in
          one_more shapes v a 0 (λ j. shape (value_row τ (record { 0 = j }))) (omega (arith, u.long_shapes)) (f ∙ sym (s most τ k.rows m).shaped ∙ ap (λ x. shape (row_of τ x)) n) (u.shaped most τ k m l r);
      fits = λ most τ k m l r.
          let n : o ≡ get_or τ.recorded v none = e ∙ ap recorded_from (k.recorded_types v (omega arith) (omega (arith, k.long))) ∙ recorded_back _ in
          one_more eligible v b false (λ j. is_scalarizable σ (value_row τ (record { 0 = j }))) (omega (arith, u.long_eligible)) (g ∙ sym ((s most τ k.rows m).fits σ) ∙ ap (λ x. is_scalarizable σ (row_of τ x)) n) (u.fits most τ k m l r);
    }
