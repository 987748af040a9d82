-- The kinds, field by field: what agrees is told of the fields where they stand.
use Prim.Native.Nat.{ℕ, ◌+◌}
use mathlib.Core.Path.{◌≡◌, refl, ap, ◌∙◌, sym}
use mathlib.Core.List.{List}
use mathlib.Core.Bool.{Bool, true, false, cond, ◌&&◌}
use mathlib.Core.Option.{Option, none, some}
use lib.Dec.{eqb}
use Rattle.bytes_wire.specs.Number.{at16, at32}
use Rattle.mir.specs.declared.ValueId.{ValueId}
use Rattle.mir.specs.declared.TypeId.{TypeId}
use Rattle.mir.specs.declared.NameId.{NameId}
use Rattle.mir.specs.declared.Value.{Value}
use Rattle.mir.specs.declared.Literal.{Literal}
use Rattle.bytes_field.specs.Decode.{extract_tuple_of, extract_field_of, insert_field_of, insert_tuple_of}
use Rattle.bytes_field.specs.declared.Bounds.{Bounds}
use Rattle.bytes_operands.specs.Fields.{value_end}
use Rattle.bytes_operands.proofs.Places.{Stand, then, last}
use Rattle.rewrite_parts.specs.Rows.{ValueAt}
use Rattle.mir.specs.Lookup.{Types, row_of, recorded_type, value_row, shape, is_tuple}
use Rattle.mir.specs.Parts.{part_type, operand_row}
use Rattle.shelf.specs.Fits.{same_type, fits, literal_kind, scalar_kind}
use Rattle.shelf_types.specs.Types.{shaped_part}
use Rattle.bytes_struct.specs.FindField.{field_type_of}
use Rattle.shelf.specs.Agrees.{agrees}
use Rattle.rewrite.specs.Rebuild.{return_type}
use Rattle.shelf_field.specs.Fields.{IdAt, TypeAt}
use Rattle.shelf_field.proofs.Single.{type_moved, value_moved}
use Rattle.shelf_field.proofs.Standing.{dest_field, type_field, name_field, long_field, value_field}

-- the row of an operand's type
operand_row_lem : (τ : Types) (x : Value) → row_of τ (return_type τ x) ≡ operand_row τ x
unfolding return_type operand_row row_of value_row
operand_row_lem τ (Value.Literal l) = refl
operand_row_lem τ (Value.Operand v) = refl
operand_row_lem τ Value.Error = refl

-- no value fits where there is no type
same_none : (o : Option TypeId) → same_type o none ≡ false
unfolding same_type
same_none none = refl
same_none (some t) = refl

fits_none : (τ : Types) (x : Value) → fits τ x none ≡ false
unfolding fits literal_kind scalar_kind row_of
fits_none τ (Value.Literal (Literal.Integer n)) = refl
fits_none τ (Value.Literal (Literal.Boolean b)) = refl
fits_none τ (Value.Literal Literal.Unit) = refl
fits_none τ (Value.Operand v) = same_none (recorded_type τ v)
fits_none τ Value.Error = refl

-- the part of a tuple, where it is one
part_same : (c : Bool) (o : Option TypeId) (y : TypeId) → same_type (cond c o none) (some y) ≡ (c && same_type o (some y))
unfolding same_type
part_same true o y = refl
part_same false o y = refl

part_fits : (τ : Types) (x : Value) (c : Bool) (o : Option TypeId) → fits τ x (cond c o none) ≡ (c && fits τ x o)
part_fits τ x true o = refl
part_fits τ x false o = fits_none τ x

module _ (b : Bounds) (t : List ℕ) where
  abbrev D : ℕ → ValueId → Type 0
  D p d = IdAt b.next t p d

  abbrev X : ℕ → Value → Type 0
  X p x = ValueAt b.next t p x

  abbrev Y : ℕ → TypeId → Type 0
  Y p y = TypeAt b.types t p y

  module _ (seen : List Bool) (τ : Types) {r : Bool} where
    pub extract_tuple_agrees : {e : ℕ} → e ≡ value_end t 2 → ((d : ValueId) (x : Value) (k : ℕ) (y : TypeId) → D 0 d → X 2 x → k ≡ at32 t e → Y (e + 4) y
        → r ≡ (same_type (recorded_type τ d) (some y) && same_type (shaped_part (row_of τ (return_type τ x)) 1 k) (some y))) → Stand t 0 (extract_tuple_of b seen) (λ i e. r ≡ agrees τ i)
    unfolding extract_tuple_of agrees is_tuple
    extract_tuple_agrees z f =
        then (dest_field b t seen) (λ d u. then (value_field b t) (λ x p. then (long_field b t) (λ k w. last _ (type_field b t) (λ y v.
        f d x k y u p (w ∙ ap (at32 t) (sym z)) (type_moved (ap (λ m. m + 4) z) v)
        ∙ ap (λ o. same_type (recorded_type τ d) (some y) && same_type (shaped_part o 1 k) (some y)) (operand_row_lem τ x)
        ∙ ap (λ c. same_type (recorded_type τ d) (some y) && c) (part_same (eqb (shape (operand_row τ x)) 1) (part_type (operand_row τ x) k) y)))))

    pub extract_field_agrees : {e : ℕ} → e ≡ value_end t 2 → ((d : ValueId) (x : Value) (k : NameId) (y : TypeId) → D 0 d → X 2 x → k.0 ≡ at16 t e → Y (e + 2) y
        → r ≡ (same_type (recorded_type τ d) (some y) && same_type (field_type_of (row_of τ (return_type τ x)) k) (some y))) → Stand t 0 (extract_field_of b seen) (λ i e. r ≡ agrees τ i)
    unfolding extract_field_of agrees
    extract_field_agrees z f =
        then (dest_field b t seen) (λ d u. then (value_field b t) (λ x p. then (name_field b t) (λ k w. last _ (type_field b t) (λ y v.
        f d x k y u p (w ∙ ap (at16 t) (sym z)) (type_moved (ap (λ m. m + 2) z) v)
        ∙ ap (λ o. same_type (recorded_type τ d) (some y) && same_type (field_type_of o k) (some y)) (operand_row_lem τ x)))))

    pub insert_field_agrees : {e far : ℕ} → e ≡ value_end t 2 → far ≡ value_end t (e + 2) → ((d : ValueId) (x : Value) (k : NameId) (z : Value) (y : TypeId) → D 0 d → X 2 x → k.0 ≡ at16 t e → X (e + 2) z → Y far y
        → r ≡ (same_type (recorded_type τ d) (some y) && (fits τ x (some y) && fits τ z (field_type_of (row_of τ (some y)) k)))) → Stand t 0 (insert_field_of b seen) (λ i e. r ≡ agrees τ i)
    unfolding insert_field_of agrees
    insert_field_agrees z z' f =
        then (dest_field b t seen) (λ d u. then (value_field b t) (λ x p. then (name_field b t) (λ k w. then (value_field b t) (λ a q. last _ (type_field b t) (λ y v.
        f d x k a y u p (w ∙ ap (at16 t) (sym z)) (value_moved (ap (λ m. m + 2) z) q) (type_moved (z' ∙ ap (λ m. value_end t (m + 2)) z) v))))))

    pub insert_tuple_agrees : {e far : ℕ} → e ≡ value_end t 2 → far ≡ value_end t (e + 4) → ((d : ValueId) (x : Value) (k : ℕ) (z : Value) (y : TypeId) → D 0 d → X 2 x → k ≡ at32 t e → X (e + 4) z → Y far y
        → r ≡ (same_type (recorded_type τ d) (some y) && (fits τ x (some y) && fits τ z (shaped_part (row_of τ (some y)) 1 k)))) → Stand t 0 (insert_tuple_of b seen) (λ i e. r ≡ agrees τ i)
    unfolding insert_tuple_of agrees is_tuple
    insert_tuple_agrees z z' f =
        then (dest_field b t seen) (λ d u. then (value_field b t) (λ x p. then (long_field b t) (λ k w. then (value_field b t) (λ a q. last _ (type_field b t) (λ y v.
        f d x k a y u p (w ∙ ap (at32 t) (sym z)) (value_moved (ap (λ m. m + 4) z) q) (type_moved (z' ∙ ap (λ m. value_end t (m + 4)) z) v)
        ∙ ap (λ c. same_type (recorded_type τ d) (some y) && (fits τ x (some y) && c)) (part_fits τ a (eqb (shape (row_of τ (some y))) 1) (part_type (row_of τ (some y)) k)))))))
