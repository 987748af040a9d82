-- What is found is what the plain search finds; it is a field of the struct, and its number of fields is the struct's.
use Prim.Native.Nat.{ℕ, suc, ◌+◌, ◌<◌}
use mathlib.Core.Path.{◌≡◌, refl, ap, ◌∙◌, sym}
use mathlib.Core.List.{List, [], ◌∷◌}
use mathlib.Core.Bool.{true, false, cond}
use mathlib.Core.Bool as B
use mathlib.Core.Option.{Option, none, some}
use native.Mathlib.Omega.{arith}
use borrow.Author.Tests.{eqb-true, eqb-false, ltb-true, ltb-false}
use lib.ListN.{length, get_or, get_elem?, drop}
use lib.Dec.{eqb, ltb}
use Rattle.table.proofs.Elements.{some_at, none_at}
use Rattle.bytes_wire.specs.Parse.{ok}
use Rattle.mir.specs.declared.NameId.{NameId}
use Rattle.mir.specs.MirType.{StructField, MirType, Felt, Bool, U32, Tuple, Struct, FixedArray, Pointer, Function, Unit, Error, Unknown}
use Rattle.mir.specs.Lookup.{struct_fields_of, on_some}
use Rattle.mir.specs.Parts.{field_type, part_type}
use Rattle.bytes_types.specs.Decode.{type_of}
use Rattle.bytes_types.specs.Index.{TypesAt}
use Rattle.bytes_struct.specs.declared.FoundField.{FoundField}
use Rattle.bytes_struct.specs.FindField.{find_from, find_field, position_in, part_in, field_index, field_type_of}
use Rattle.bytes_struct.specs.Fields.{no_field}
use Rattle.bytes_struct.proofs.Placed.{kind_fields, other_fields}

-- the plain search, `fields.iter().position(..)`: the first field of that name
next : Option ℕ → Option ℕ
next none = none
next (some k) = some (suc k)

position : NameId → List StructField → Option ℕ
position n [] = none
position n (f ∷ fs) = cond (eqb n.0 f.name.0) (some 0) (next (position n fs))

-- a position among those from number `at` on
shift : ℕ → Option ℕ → Option ℕ
shift at none = none
shift at (some k) = some (at + k)

shift_next : (at : ℕ) (o : Option ℕ) → shift (suc at) o ≡ shift at (next o)
unfolding next shift
shift_next at none = refl
shift_next at (some k) = let z : suc at + k ≡ at + suc k = omega arith in ap (λ x. some x) z

shift_zero : (o : Option ℕ) → shift 0 o ≡ o
unfolding shift
shift_zero none = refl
shift_zero (some k) = let z : 0 + k ≡ k = omega arith in ap (λ x. some x) z

from_position : (at many : ℕ) (n : NameId) (fs : List StructField) → position_in (find_from at many n fs) ≡ shift at (position n fs)
unfolding find_from position shift
from_position at many n [] = refl
from_position at many n (f ∷ fs) = go (eqb n.0 f.name.0) (from_position (suc at) many n fs ∙ shift_next at (position n fs))
  where
    go : (b : B.Bool) → position_in (find_from (suc at) many n fs) ≡ shift at (next (position n fs))
        → position_in (cond b (some (record { position = at; part = f.part; fields = many })) (find_from (suc at) many n fs)) ≡ shift at (cond b (some 0) (next (position n fs)))
    go true r = let z : at ≡ at + 0 = omega arith in ap (λ x. some x) z
    go false r = r

from_part : (at many : ℕ) (n : NameId) (fs : List StructField) → part_in (find_from at many n fs) ≡ on_some (position n fs) (λ k. field_type (get_elem? fs k))
unfolding find_from position on_some field_type next
from_part at many n [] = refl
from_part at many n (f ∷ fs) = go (eqb n.0 f.name.0) (from_part (suc at) many n fs ∙ later (position n fs))
  where
    later : (o : Option ℕ) → on_some o (λ k. field_type (get_elem? fs k)) ≡ on_some (next o) (λ k. field_type (get_elem? (f ∷ fs) k))
    later none = refl
    later (some k) = refl

    go : (b : B.Bool) → part_in (find_from (suc at) many n fs) ≡ on_some (next (position n fs)) (λ k. field_type (get_elem? (f ∷ fs) k))
        → part_in (cond b (some (record { position = at; part = f.part; fields = many })) (find_from (suc at) many n fs)) ≡ on_some (cond b (some 0) (next (position n fs))) (λ k. field_type (get_elem? (f ∷ fs) k))
    go true r = refl
    go false r = r

-- position and part type are the plain search's
find_position : (t : Option MirType) (n : NameId) → field_index t n ≡ position n (struct_fields_of t)
unfolding field_index find_field
find_position t n = from_position 0 (length (struct_fields_of t)) n (struct_fields_of t) ∙ shift_zero (position n (struct_fields_of t))

find_part : (t : Option MirType) (n : NameId) → field_type_of t n ≡ on_some (position n (struct_fields_of t)) (λ k. field_type (get_elem? (struct_fields_of t) k))
unfolding field_type_of find_field
find_part t n = from_part 0 (length (struct_fields_of t)) n (struct_fields_of t)

-- what is found is the field at its position, of that name, and one of `many`
pub record IsField (at many : ℕ) (n : NameId) (fs : List StructField) (f : FoundField) : Type 0 where
  pub place : ℕ
  pub inside : place < length fs
  pub position : f.position ≡ at + place
  pub named : n.0 ≡ (get_or fs place no_field).name.0
  pub part : f.part ≡ (get_or fs place no_field).part
  pub fields : f.fields ≡ many

from_field : (at many : ℕ) (n : NameId) (fs : List StructField) (f : FoundField) → find_from at many n fs ≡ some f → IsField at many n fs f
unfolding find_from
from_field at many n [] f e = absurd (let z : ◌≡◌ {A = ℕ} 0 1 = cc in omega arith)
from_field at many n (g ∷ fs) f e = go (eqb n.0 g.name.0) refl e (from_field (suc at) many n fs f)
  where
    go : (b : B.Bool) → eqb n.0 g.name.0 ≡ b → cond b (some (record { position = at; part = g.part; fields = many })) (find_from (suc at) many n fs) ≡ some f
        → (find_from (suc at) many n fs ≡ some f → IsField (suc at) many n fs f) → IsField at many n (g ∷ fs) f
    go true h e r =
        let z : f ≡ record { position = at; part = g.part; fields = many } = cc in
        record {
          place = 0;
          inside = omega arith;
          position = ap (λ x. x.position) z ∙ omega arith;
          named = eqb-true n.0 g.name.0 h;
          part = ap (λ x. x.part) z;
          fields = ap (λ x. x.fields) z;
        }
    go false h e r =
        let i = r e in
        record {
          place = suc i.place;
          inside = omega (arith, i.inside);
          position = i.position ∙ omega arith;
          named = i.named;
          part = i.part;
          fields = i.fields;
        }

module _ (t : Option MirType) (n : NameId) (f : FoundField) (e : find_field t n ≡ some f) where
  pub is_field : IsField 0 (length (struct_fields_of t)) n (struct_fields_of t) f
  unfolding find_field
  is_field = from_field 0 (length (struct_fields_of t)) n (struct_fields_of t) f e

  -- the number of fields is the struct's
  pub find_fields : f.fields ≡ length (struct_fields_of t)
  find_fields = is_field.fields

  -- the position is below it
  pub found_below : f.position < f.fields
  found_below = let r = is_field in omega (arith, r.inside, r.position, r.fields)

-- a part of a struct type, by its position
pub field_part : (t : Option MirType) (k : ℕ) → k < length (struct_fields_of t) → part_type t k ≡ some (get_or (struct_fields_of t) k no_field).part
unfolding struct_fields_of part_type field_type
field_part none k h = absurd (omega arith)
field_part (some Felt) k h = absurd (omega arith)
field_part (some Bool) k h = absurd (omega arith)
field_part (some U32) k h = absurd (omega arith)
field_part (some (Tuple ts)) k h = absurd (omega arith)
field_part (some (Struct n fs)) k h = ap field_type (some_at fs k no_field h)
field_part (some (FixedArray t z)) k h = absurd (omega arith)
field_part (some (Pointer t)) k h = absurd (omega arith)
field_part (some (Function ps r)) k h = absurd (omega arith)
field_part (some Unit) k h = absurd (omega arith)
field_part (some Error) k h = absurd (omega arith)
field_part (some Unknown) k h = absurd (omega arith)

-- the part type is that of the part at the position
pub found_part : (t : Option MirType) (n : NameId) (f : FoundField) → find_field t n ≡ some f → part_type t f.position ≡ some f.part
found_part t n f e =
    let r = is_field t n f e in
    let z : f.position ≡ r.place = r.position ∙ omega arith in
    ap (part_type t) z ∙ field_part t r.place r.inside ∙ ap (λ x. some x) (sym r.part)

pub index_type : (t : Option MirType) (n : NameId) (k : ℕ) → field_index t n ≡ some k → field_type_of t n ≡ part_type t k
unfolding field_index field_type_of
index_type t n k e = go (find_field t n) refl
  where
    go : (o : Option FoundField) → find_field t n ≡ o → field_type_of t n ≡ part_type t k
    go none h = absurd (let z : none ≡ some k = sym (ap position_in h) ∙ e in let y : ◌≡◌ {A = ℕ} 0 1 = cc in omega arith)
    go (some f) h =
        let z : some f.position ≡ some k = sym (ap position_in h) ∙ e in
        let y : f.position ≡ k = cc in
        ap part_in h ∙ sym (found_part t n f h) ∙ ap (part_type t) y

-- the parts of a struct type in a table stand before it
parts_earlier : (most : ℕ) (s types : List ℕ) (ts : List MirType) (t : ℕ) → TypesAt most s types ts → (k : ℕ) → k < length (struct_fields_of (get_elem? ts t)) → (get_or (struct_fields_of (get_elem? ts t)) k no_field).part.0 < t
unfolding struct_fields_of
parts_earlier most s types ts t a k = go (ltb t (length ts)) refl
  where
    row : List ℕ
    row = drop (get_or types t 0) s

    of_kind : {T : MirType} {m : ℕ} → type_of most t row ≡ ok T m → (b : B.Bool) → eqb (get_or row 0 0) 4 ≡ b → k < length (struct_fields_of (some T)) → (get_or (struct_fields_of (some T)) k no_field).part.0 < t
    of_kind e true h l = (kind_fields most t row e (eqb-true (get_or row 0 0) 4 h)).earlier k l
    of_kind e false h l = absurd (let z = ap length (other_fields most t row e (eqb-false (get_or row 0 0) 4 h)) in omega (arith, z, l))

    go : (b : B.Bool) → ltb t (length ts) ≡ b → k < length (struct_fields_of (get_elem? ts t)) → (get_or (struct_fields_of (get_elem? ts t)) k no_field).part.0 < t
    go true h = let l = ltb-true t (length ts) h in rw (some_at ts t MirType.Unit l) (of_kind (a.each t l) (eqb (get_or row 0 0) 4) refl)
    go false h = rw (none_at ts t (ltb-false t (length ts) h)) (λ l. absurd (omega arith))

-- so the part type of a field that is found does
pub found_earlier : (most : ℕ) (s types : List ℕ) (ts : List MirType) (t : ℕ) (n : NameId) (f : FoundField) → TypesAt most s types ts → find_field (get_elem? ts t) n ≡ some f → f.part.0 < t
found_earlier most s types ts t n f a e =
    let r = is_field (get_elem? ts t) n f e in
    rw r.part (parts_earlier most s types ts t a r.place r.inside)
