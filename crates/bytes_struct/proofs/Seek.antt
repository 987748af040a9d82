-- The search for a name among a struct type's fields finds the first number whose name is that.
use Prim.Native.Nat.{ℕ, suc, ◌+◌, ◌*◌, ◌≤◌, ◌<◌}
use mathlib.Core.Path.{◌≡◌, refl, ap, ◌∙◌, sym}
use mathlib.Core.List.{List, [], ◌∷◌}
use mathlib.Core.Bool.{Bool, true, false, cond}
use mathlib.Core.Option.{none, some}
use mathlib.Core.Option as M
use Rattle.std.specs.Prelude.{Option, Some, None}
use Rattle.std.specs.List.{find, range_with_len}
use native.Mathlib.Omega.{arith}
use lib.Dec.{eqb}
use lib.ListN.{length, get_or, get_elem?, drop}
use Rattle.table.proofs.Elements.{some_at, none_at}
use Rattle.bytes_wire.specs.Parse.{ok}
use Rattle.bytes_wire.specs.Number.{at16}
use Rattle.mir.specs.declared.NameId.{NameId}
use Rattle.mir.specs.MirType.{StructField, MirType}
use Rattle.mir.specs.Lookup.{struct_fields_of}
use Rattle.bytes_types.specs.Decode.{type_of}
use Rattle.bytes_types.specs.Index.{TypesAt}
use Rattle.bytes_struct.specs.declared.FoundField.{FoundField}
use Rattle.bytes_struct.specs.FindField.{find_from, find_field}
use Rattle.bytes_struct.specs.Fields.{first_name, first_part, no_field}
use Rattle.mir.specs.Option.{as_option}
use Rattle.bytes_struct.specs.Found.{has_name, first_named, FoundInRow}
use Rattle.bytes_struct.proofs.Placed.{kind_fields, other_fields}

-- what is found, by the number of the field of that name
abbrev pub found_at : List ℕ → ℕ → Option ℕ → M.Option FoundField
found_at row many None = none
found_at row many (Some i) = some (record { position = i; part = record { 0 = at16 row (first_part + 4 * i) }; fields = many })

-- the fields from number `at` on stand in the bytes
abbrev Stands : List ℕ → ℕ → List StructField → Type 0
Stands row at fs = (k : ℕ) → k < length fs → (at16 row (first_name + 4 * (at + k)) ≡ (get_or fs k no_field).name.0) × (at16 row (first_part + 4 * (at + k)) ≡ (get_or fs k no_field).part.0)

-- the search among the fields finds the first number whose name is that
named : (row : List ℕ) (many : ℕ) (name : NameId) (at : ℕ) (fs : List StructField) → Stands row at fs → find_from at many name fs ≡ found_at row many (find (has_name row name) (range_with_len at (length fs)))
unfolding find_from
named row many name at [] h = refl
named row many name at (f ∷ fs) h =
    let z : at + 0 ≡ at = omega arith in
    let here = h 0 (omega arith) in
    let n : at16 row (first_name + 4 * at) ≡ f.name.0 = ap (λ i. at16 row (first_name + 4 * i)) (sym z) ∙ here.0 in
    let p : at16 row (first_part + 4 * at) ≡ f.part.0 = ap (λ i. at16 row (first_part + 4 * i)) (sym z) ∙ here.1 in
    let step : suc at ≡ at + 1 = omega arith in
    let later = named row many name (suc at) fs (λ k l. let e : suc at + k ≡ at + suc k = omega arith in rw e (h (suc k) (omega arith))) in
    go (has_name row name at) (eqb name.0 f.name.0) (ap (eqb name.0) n) p _ (later ∙ ap (λ j. found_at row many (find (has_name row name) (range_with_len j (length fs)))) step)
  where
    go : (b c : Bool) → b ≡ c → at16 row (first_part + 4 * at) ≡ f.part.0 → (rest : Option ℕ) → find_from (suc at) many name fs ≡ found_at row many rest
        → cond c (some (record { position = at; part = f.part; fields = many })) (find_from (suc at) many name fs) ≡ found_at row many (cond b (Some at) rest)
    go true true e p rest later = let q : f.part ≡ record { 0 = at16 row (first_part + 4 * at) } = ap (λ (k : ℕ). record { 0 = k }) (sym p) in rw q refl
    go true false e p rest later = cc
    go false true e p rest later = cc
    go false false e p rest later = later

module _ (most own m : ℕ) (row : List ℕ) (T : MirType) (name : NameId) (e : type_of most own row ≡ ok T m) where
  -- a struct's row
  struct_found : get_or row 0 0 ≡ 4 → find_field (some T) name ≡ found_at row (get_or row 3 0) (first_named row name (get_or row 3 0))
  unfolding find_field
  struct_found h =
      let w = kind_fields most own row e h in
      ap (λ n. find_from 0 n name (struct_fields_of (some T))) w.many
      ∙ named row (get_or row 3 0) name 0 (struct_fields_of (some T)) (λ k l. let z : 0 + k ≡ k = omega arith in rw z (w.names.each k l, w.parts.each k l))
      ∙ ap (λ n. found_at row (get_or row 3 0) (first_named row name n)) w.many

  pub among_found : get_or row 0 0 ≡ 4 → (o : Option ℕ) → o ≡ first_named row name (get_or row 3 0) → found_at row (get_or row 3 0) o ≡ find_field (some T) name
  among_found h o f = ap (found_at row (get_or row 3 0)) f ∙ sym (struct_found h)

  -- any other's
  pub other_found : (get_or row 0 0 ≡ 4 → ⊥) → none ≡ find_field (some T) name
  unfolding find_field find_from
  other_found h = let q = other_fields most own row e h in rw q

module _ (most : ℕ) (s types : List ℕ) (ts : List MirType) (many t : ℕ) (name : NameId) (l : length ts ≡ many) where
  -- no such type
  pub no_type_lem : many ≤ t → none ≡ find_field (get_elem? ts t) name
  unfolding find_field struct_fields_of find_from
  no_type_lem h = let q = none_at ts t (omega arith) in rw q

  -- the type's row
  pub type_found : (r : Option FoundField) {row : List ℕ} {place : ℕ} → TypesAt most s types ts → t < many → row ≡ drop place s → place ≡ get_or types t 0 → FoundInRow row name r → as_option r ≡ find_field (get_elem? ts t) name
  type_found r {row} {place} a h e p f =
      let g : t < length ts = omega arith in
      let here : row ≡ drop (get_or types t 0) s = e ∙ ap (λ j. drop j s) p in
      f most t _ (get_or ts t MirType.Unit) (ap (type_of most t) here ∙ a.each t g) ∙ ap (λ o. find_field o name) (sym (some_at ts t MirType.Unit g))
