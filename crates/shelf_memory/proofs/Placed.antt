-- Load and Store, field by field.
use Prim.Native.Nat.{ℕ}
use mathlib.Core.Path.{◌≡◌, ap, ◌∙◌}
use mathlib.Core.List.{List}
use mathlib.Core.Bool.{Bool, ◌&&◌}
use mathlib.Core.Option.{some}
use lib.ListN.{get_or}
use Rattle.mir.specs.declared.ValueId.{ValueId}
use Rattle.mir.specs.declared.TypeId.{TypeId}
use Rattle.mir.specs.declared.Value.{Value}
use Rattle.mir.specs.Syntax.{Place}
use Rattle.bytes_field.specs.Decode.{load_of, store_of}
use Rattle.bytes_field.specs.declared.Bounds.{Bounds}
use Rattle.bytes_operands.specs.Fields.{value_end, projection_end, after}
use Rattle.bytes_operands.proofs.Places.{Stand, then, last}
use Rattle.rewrite_parts.specs.Rows.{ValueAt}
use Rattle.mir.specs.Lookup.{Types, recorded_type}
use Rattle.shelf.specs.Fits.{same_type, fits}
use Rattle.shelf.specs.Agrees.{agrees, place_fits}
use Rattle.shelf_field.specs.Fields.{IdAt, TypeAt}
use Rattle.shelf_field.proofs.Single.{type_moved, value_moved}
use Rattle.shelf_field.proofs.Standing.{dest_field, type_field, value_field}
use Rattle.shelf_place.specs.Places.{PlaceAt}
use Rattle.shelf_place.proofs.Places.{place_field}

module _ (b : Bounds) (t : List ℕ) where
  module _ (seen : List Bool) (τ : Types) {r : Bool} where
    pub load_agrees : {n e : ℕ} → n ≡ get_or t 4 0 → e ≡ after (projection_end t) n 5 → ((d : ValueId) (p : Place) (y : TypeId) → IdAt b.next t 0 d → PlaceAt b.next t 2 p → TypeAt b.types t e y
        → r ≡ (same_type (recorded_type τ d) (some y) && place_fits τ p y)) → Stand t 0 (load_of b seen) (λ i e. r ≡ agrees τ i)
    unfolding load_of agrees
    load_agrees m z f =
        then (dest_field b t seen) (λ d u. then (place_field b t) (λ x p. last _ (type_field b t) (λ y v. f d x y u p (type_moved (z ∙ ap (λ n. after (projection_end t) n 5) m) v))))

    pub store_agrees : {e far : ℕ} → e ≡ after (projection_end t) (get_or t 2 0) 3 → far ≡ value_end t e → ((p : Place) (x : Value) (y : TypeId) → PlaceAt b.next t 0 p → ValueAt b.next t e x → TypeAt b.types t far y
        → r ≡ (fits τ x (some y) && place_fits τ p y)) → Stand t 0 (store_of b seen) (λ i e. r ≡ agrees τ i)
    unfolding store_of agrees
    store_agrees h z f =
        then (place_field b t) (λ x p. then (value_field b t) (λ y q. last _ (type_field b t) (λ a v. f x y a p (value_moved h q) (type_moved (z ∙ ap (value_end t) h) v))))
