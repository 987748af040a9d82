-- The kinds, field by field: what agrees is told of the fields where they stand.
use Prim.Native.Nat.{ℕ}
use mathlib.Core.Path.{◌≡◌}
use mathlib.Core.List.{List}
use mathlib.Core.Bool.{Bool, ◌&&◌}
use mathlib.Core.Option.{some}
use Rattle.mir.specs.declared.ValueId.{ValueId}
use Rattle.mir.specs.declared.TypeId.{TypeId}
use Rattle.mir.specs.declared.Value.{Value}
use Rattle.bytes_field.specs.Decode.{assign_of, unary_of, binary_of, cast_of, assert_eq_of, heap_alloc_of}
use Rattle.bytes_field.specs.declared.Bounds.{Bounds}
use Rattle.bytes_operands.specs.Fields.{value_end}
use Rattle.bytes_operands.proofs.Places.{Stand, then, last}
use Rattle.rewrite_parts.specs.Rows.{ValueAt}
use Rattle.mir.specs.Lookup.{Types, recorded_type}
use Rattle.shelf.specs.Fits.{same_type, fits}
use Rattle.shelf.specs.Agrees.{is_scalar_type, is_scalar, equal_types, agrees}
use Rattle.shelf_field.specs.Fields.{IdAt, TypeAt}
use Rattle.shelf_field.proofs.Single.{type_moved, value_moved}
use Rattle.shelf_field.proofs.Standing.{dest_field, type_field, value_field, operation_field}

module _ (b : Bounds) (t : List ℕ) where
  abbrev D : ℕ → ValueId → Type 0
  D p d = IdAt b.next t p d

  abbrev X : ℕ → Value → Type 0
  X p x = ValueAt b.next t p x

  abbrev Y : ℕ → TypeId → Type 0
  Y p y = TypeAt b.types t p y

  module _ (seen : List Bool) (τ : Types) {r : Bool} where
    pub assign_agrees : {e : ℕ} → e ≡ value_end t 2 → ((d : ValueId) (x : Value) (y : TypeId) → D 0 d → X 2 x → Y e y → r ≡ (same_type (recorded_type τ d) (some y) && fits τ x (some y))) → Stand t 0 (assign_of b seen) (λ i e. r ≡ agrees τ i)
    unfolding assign_of agrees
    assign_agrees z f = then (dest_field b t seen) (λ d u. then (value_field b t) (λ x p. last _ (type_field b t) (λ y v. f d x y u p (type_moved z v))))

    pub unary_agrees : ((d : ValueId) (x : Value) → D 1 d → X 3 x → r ≡ (is_scalar_type τ (recorded_type τ d) && is_scalar τ x)) → Stand t 0 (unary_of b seen) (λ i e. r ≡ agrees τ i)
    unfolding unary_of agrees
    unary_agrees f = then (operation_field b t 16) (λ o w. then (dest_field b t seen) (λ d u. last _ (value_field b t) (λ x p. f d x u p)))

    pub binary_agrees : {e : ℕ} → e ≡ value_end t 3 → ((d : ValueId) (x y : Value) → D 1 d → X 3 x → X e y → r ≡ (is_scalar_type τ (recorded_type τ d) && (is_scalar τ x && is_scalar τ y))) → Stand t 0 (binary_of b seen) (λ i e. r ≡ agrees τ i)
    unfolding binary_of agrees
    binary_agrees z f = then (operation_field b t 26) (λ o w. then (dest_field b t seen) (λ d u. then (value_field b t) (λ x p. last _ (value_field b t) (λ y q. f d x y u p (value_moved z q)))))

    pub cast_agrees : ((d : ValueId) (x : Value) → D 0 d → X 2 x → r ≡ (is_scalar_type τ (recorded_type τ d) && is_scalar τ x)) → Stand t 0 (cast_of b seen) (λ i e. r ≡ agrees τ i)
    unfolding cast_of agrees
    cast_agrees f = then (dest_field b t seen) (λ d u. then (value_field b t) (λ x p. then (type_field b t) (λ y v. last _ (type_field b t) (λ z w. f d x u p))))

    pub heap_agrees : ((d : ValueId) (x : Value) → D 0 d → X 2 x → r ≡ (is_scalar_type τ (recorded_type τ d) && is_scalar τ x)) → Stand t 0 (heap_alloc_of b seen) (λ i e. r ≡ agrees τ i)
    unfolding heap_alloc_of agrees
    heap_agrees f = then (dest_field b t seen) (λ d u. last _ (value_field b t) (λ x p. f d x u p))

    pub assert_agrees : {e : ℕ} → e ≡ value_end t 0 → ((x y : Value) → X 0 x → X e y → r ≡ equal_types τ x y) → Stand t 0 (assert_eq_of b seen) (λ i e. r ≡ agrees τ i)
    unfolding assert_eq_of agrees
    assert_agrees z f = then (value_field b t) (λ x p. last _ (value_field b t) (λ y q. f x y p (value_moved z q)))
