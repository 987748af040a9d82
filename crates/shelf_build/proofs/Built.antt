-- The builds, field by field.
use Prim.Native.Nat.{ℕ}
use mathlib.Core.Path.{◌≡◌, ap, ◌∙◌, sym}
use mathlib.Core.List.{List}
use mathlib.Core.Bool.{Bool, ◌&&◌}
use mathlib.Core.Option.{some}
use lib.ListN.{length, get_or}
use lib.Dec.{eqb}
use Rattle.mir.specs.declared.ValueId.{ValueId}
use Rattle.mir.specs.declared.TypeId.{TypeId}
use Rattle.mir.specs.declared.Value.{Value}
use Rattle.mir.specs.Syntax.{FieldInit, InstructionKind}
use Rattle.bytes_field.specs.Decode.{make_tuple_of, make_struct_of, make_array_of}
use Rattle.bytes_field.specs.declared.Bounds.{Bounds}
use Rattle.bytes_operands.specs.Fields.{after, value_step}
use Rattle.bytes_operands.proofs.Places.{Stand, then, last}
use Rattle.rewrite_parts.specs.Rows.{Inits}
use Rattle.mir.specs.Lookup.{Types, row_of, recorded_type, value_row, shape, is_tuple, is_array}
use Rattle.mir.specs.Parts.{part_type}
use Rattle.shelf.specs.Fits.{same_type, parts_fit}
use Rattle.shelf.specs.Agrees.{agrees}
use Rattle.shelf_field.specs.Fields.{IdAt, TypeAt}
use Rattle.shelf_field.proofs.Single.{type_moved}
use Rattle.shelf_field.proofs.Standing.{dest_field, type_field}
use Rattle.shelf_list.specs.Lists.{ValuesAt}
use Rattle.shelf_list.proofs.Standing.{values_field, inits_here}

module _ (b : Bounds) (t : List ℕ) where
  module _ (seen : List Bool) (τ : Types) {r : Bool} where
    pub make_tuple_agrees : {n : ℕ} → n ≡ get_or t 2 0 → ((d : ValueId) (xs : List Value) → IdAt b.next t 0 d → ValuesAt b.next t 3 xs → length xs ≡ n → r ≡ (eqb (shape (row_of τ (recorded_type τ d))) 1 && parts_fit τ (recorded_type τ d) xs)) → Stand t 0 (make_tuple_of b seen) (λ i e. r ≡ agrees τ i)
    unfolding make_tuple_of agrees is_tuple value_row
    make_tuple_agrees m f = then (dest_field b t seen) (λ d u. last _ (values_field b t) (λ xs q. f d xs u q.0 (q.1 ∙ sym m)))

    pub make_array_agrees : (c : Bool) {n e : ℕ} → n ≡ get_or t 2 0 → e ≡ after (value_step t 0 0) n 3 → ((d : ValueId) (xs : List Value) (y : TypeId) → IdAt b.next t 0 d → ValuesAt b.next t 3 xs
        → length xs ≡ n → TypeAt b.types t e y
        → r ≡ (eqb (shape (row_of τ (recorded_type τ d))) 3 && (same_type (part_type (row_of τ (recorded_type τ d)) 0) (some y) && parts_fit τ (recorded_type τ d) xs))) → Stand t 0 (make_array_of b seen c) (λ i e. r ≡ agrees τ i)
    unfolding make_array_of agrees is_array value_row
    make_array_agrees c m z f =
        then (dest_field b t seen) (λ d u. then (values_field b t) (λ xs q. last _ (type_field b t) (λ y v. f d xs y u q.0 (q.1 ∙ sym m) (type_moved (z ∙ ap (λ n. after (value_step t 0 0) n 3) m) v))))

    pub make_struct_agrees : {n e : ℕ} → n ≡ get_or t 2 0 → e ≡ after (value_step t 2 0) n 3 → ((d : ValueId) (fs : List FieldInit) (y : TypeId) → IdAt b.next t 0 d → Inits b.next t 3 fs → length fs ≡ n → TypeAt b.types t e y → r ≡ agrees τ (InstructionKind.MakeStruct d fs y)) → Stand t 0 (make_struct_of b seen) (λ i e. r ≡ agrees τ i)
    unfolding make_struct_of
    make_struct_agrees m z f =
        then (dest_field b t seen) (λ d u. then (inits_here b t) (λ fs q. last _ (type_field b t) (λ y v. f d fs y u q.0 (q.1 ∙ sym m) (type_moved (z ∙ ap (λ n. after (value_step t 2 0) n 3) m) v))))
