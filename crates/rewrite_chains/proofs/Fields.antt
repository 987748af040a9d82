-- A field by its name in the recorded type of a value.
use Prim.Native.Nat.{ℕ, suc, ◌+◌, ◌<◌}
use mathlib.Core.Path.{◌≡◌, refl, ap, ◌∙◌, sym}
use mathlib.Core.List.{List}
use mathlib.Core.Option.{Option, none, some}
use native.Mathlib.Omega.{arith}
use lib.ListN.{length, get_or, get_elem?}
use Rattle.mir.specs.declared.NameId.{NameId}
use Rattle.mir.specs.declared.TypeId.{TypeId}
use Rattle.mir.specs.declared.ValueId.{ValueId}
use Rattle.bytes_sections.specs.Index.{recorded_number, recorded_from}
use Rattle.mir.specs.Lookup.{Types, row_of, recorded_type, value_row, struct_fields_of}
use Rattle.bytes_struct.specs.FindField.{find_from, find_field}
use Rattle.bytes_struct.specs.declared.FoundField.{FoundField}
use Rattle.fold.specs.Tables.{Known}

-- the recorded type, taken apart again
recorded_back : (o : Option TypeId) → recorded_from (recorded_number o) ≡ o
recorded_back none = refl
recorded_back (some t) = let z : t.0 + 1 ≡ suc t.0 = omega arith in rw z

module _ (most : ℕ) (s types recorded : List ℕ) (τ : Types) (v : ValueId) {r : Option TypeId} (e : r ≡ recorded_from (get_or recorded v.0 0)) (k : Known most s types recorded τ) (h : v.0 < length τ.recorded) where
  -- what the table says of a value
  pub recorded_of_lem : r ≡ recorded_type τ v
  unfolding recorded_type
  recorded_of_lem = e ∙ ap recorded_from (k.recorded_types v.0 h (omega (arith, k.long))) ∙ recorded_back (get_or τ.recorded v.0 none)

  -- it has a type
  pub recorded_some : (t : TypeId) (name : NameId) {x : Option FoundField} → r ≡ some t → x ≡ find_field (get_elem? τ.rows t.0) name → x ≡ find_field (value_row τ v) name
  unfolding value_row row_of
  recorded_some t name q f =
      let g : some t ≡ recorded_type τ v = sym q ∙ recorded_of_lem in
      f ∙ ap (λ o. find_field (row_of τ o) name) g

  -- it has none
  pub recorded_none : (name : NameId) → r ≡ none → none ≡ find_field (value_row τ v) name
  unfolding value_row row_of find_field struct_fields_of find_from
  recorded_none name q =
      let g : none ≡ recorded_type τ v = sym q ∙ recorded_of_lem in
      ap (λ o. find_field (row_of τ o) name) g
