-- Where the fields of an accepted struct type stand in its bytes.
use Prim.Native.Nat.{ℕ, zero, suc, ◌+◌, ◌*◌, ◌<◌}
use mathlib.Core.Path.{◌≡◌, refl, ap, ◌∙◌, sym}
use mathlib.Core.List.{List, [], ◌∷◌, map}
use mathlib.Core.Bool.{Bool, true, false, not}
use mathlib.Core.Option.{some}
use native.Mathlib.Omega.{arith}
use borrow.Author.Tests.{eqb-true, eqb-false}
use lib.ListN.{length, get_or, drop}
use lib.Dec.{eqb}
use Rattle.bytes_wire.specs.Parse.{ok, bad, later, and_then, map_parse}
use Rattle.bytes_wire.specs.Number.{number_of, u32_of, at16, below}
use Rattle.bytes_wire.specs.declared.Cause.{Cause}
use Rattle.bytes_wire.proofs.Laws.{from_16}
use Rattle.bytes_wire.proofs.Inv.{no_ok, both, behind, image, later_inv, and_inv, map_inv, checked_inv, number_inv, below_inv, tagged_inv}
use Rattle.mir.specs.declared.NameId.{NameId}
use Rattle.mir.specs.declared.TypeId.{TypeId}
use Rattle.mir.specs.MirType.{StructField, MirType}
use Rattle.mir.specs.Lookup.{shape, is_struct, struct_fields_of}
use Rattle.bytes_field.specs.Decode.{type_id_of, name_id_of, list_of}
use Rattle.bytes_types.specs.Decode.{has_name, new_name_of, struct_fields, struct_of, type_kinds, type_of}
use Rattle.bytes_operands.specs.Fields.{after}
use Rattle.bytes_operands.proofs.Places.{Stand, Field, then, last, alone, Listed, empty, ◌&◌, apart, listed_each, count}
use Rattle.bytes_struct.specs.Fields.{first_name, first_part, no_field, Names, PartTypes}

-- a name, wherever it stands
pub name_field : (t : List ℕ) {p : ℕ} → Field t p name_id_of (λ a. at16 t p ≡ a.0) (p + 2)
name_field t {p} =
    record {
      each = λ a n e.
          elim (map_inv (λ x. record { 0 = x }) (number_of 2 (drop p t)) e) [
            | image x f g ↦
                let h = number_inv 2 (drop p t) f in
                (sym (ap (λ (y : NameId). y.0) g ∙ h.1 ∙ from_16 t p), ap (λ m. p + m) h.2)
          ];
    }

-- a type's number at a place, one below a bound
pub record TypeBelow (own : ℕ) (t : List ℕ) (p : ℕ) (a : TypeId) : Type 0 where
  pub number : at16 t p ≡ a.0
  pub under : a.0 < own

-- a type, wherever it stands
pub type_field : (own : ℕ) (t : List ℕ) {p : ℕ} → Field t p (type_id_of own) (TypeBelow own t p) (p + 2)
type_field own t {p} =
    record {
      each = λ a n e.
          elim (map_inv (λ x. record { 0 = x }) (below own (drop p t)) e) [
            | image x f g ↦
                let u = below_inv own (drop p t) f in
                let h = number_inv 2 (drop p t) u.0 in
                let y : a.0 ≡ x = ap (λ (y : TypeId). y.0) g in
                (record { number = sym (y ∙ h.1 ∙ from_16 t p); under = omega (arith, u.1, y) }, ap (λ m. p + m) h.2)
          ];
    }

module _ (own : ℕ) (t : List ℕ) where
  -- a field at a place: its name, and its type behind it
  pub record OneField (q : ℕ) (f : StructField) : Type 0 where
    pub named : at16 t q ≡ f.name.0
    pub typed : TypeBelow own t (q + 2) f.part

  -- a name that is not among those before it
  new_name : (names : List NameId) (p : ℕ) → Field t p (new_name_of names) (λ a. at16 t p ≡ a.0) (p + 2)
  new_name names p = record { each = λ a n e. (name_field t).each a n (checked_inv Cause.Repeated (λ x. not (has_name x names)) (name_id_of (drop p t)) e).0 }

  -- k fields from a place on
  fields_from : (names : List NameId) (k p : ℕ) → Field t p (struct_fields own names k) (λ fs. Listed OneField (λ q. q + 4) p fs × (length fs ≡ k)) (p + 4 * k)
  unfolding struct_fields
  fields_from names zero p = alone ((empty, refl), omega arith)
  fields_from names (suc k) p =
      let four : p + 2 + 2 ≡ p + 4 = omega arith in
      then (new_name names p) (λ n u.
      then (type_field own t) (λ y v.
      last _ (fields_from (n ∷ names) k (p + 2 + 2)) (λ fs r. ((record { named = u; typed = v } & (rw four at r.0), ap suc r.1), omega arith))))

  -- a struct type whose kind is the first byte of t: its fields stand behind its name and their count
  pub data StructAt : MirType → Type 0 where
    struct_at : (n : NameId) (fs : List StructField) → Listed OneField (λ q. q + 4) 4 fs → length fs ≡ get_or t 3 0 → StructAt (MirType.Struct n fs)

  -- so they do where one is read
  pub struct_stands : (most : ℕ) → Stand t 1 (struct_of most own) (λ y e. StructAt y)
  unfolding struct_of
  struct_stands most =
      then (name_field t) (λ n u. then (count most 3) (λ k c. last _ (fields_from [] k 4) (λ fs r. struct_at n fs r.0 (r.1 ∙ c))))

-- where the fields of a struct type stand, and how many there are
pub record FieldsIn (own : ℕ) (row : List ℕ) (fs : List StructField) : Type 0 where
  pub names : Names row first_name fs
  pub parts : PartTypes row first_part fs
  pub earlier : (k : ℕ) → k < length fs → (get_or fs k no_field).part.0 < own
  pub many : length fs ≡ get_or row 3 0

-- they stand so
fields_in : (own : ℕ) (row : List ℕ) (fs : List StructField) → Listed (OneField own row) (λ q. q + 4) 4 fs → length fs ≡ get_or row 3 0 → FieldsIn own row fs
fields_in own row fs l m =
    record {
      names = record { each = λ k h. ap (λ q. at16 row q) (sym (apart 4 k 4)) ∙ (field k h).named };
      parts = record { each = λ k h. let z : 6 + 4 * k ≡ after (λ q. q + 4) k 4 + 2 = omega (arith, apart 4 k 4) in ap (λ q. at16 row q) z ∙ (field k h).typed.number };
      earlier = λ k h. (field k h).typed.under;
      many = m;
    }
  where
    field : (k : ℕ) → k < length fs → OneField own row (after (λ q. q + 4) k 4) (get_or fs k no_field)
    field k h = listed_each no_field l k h

-- a type that is no struct
pub record NoStruct (T : MirType) : Type 0 where
  pub told : is_struct (some T) ≡ false
  pub fields : struct_fields_of (some T) ≡ []

module _ (most own : ℕ) (row : List ℕ) {y : MirType} {m : ℕ} (e : type_of most own row ≡ ok y m) where
  -- the parser of the type's kind
  kind_read : get_or (map (λ f. later 1 (f (drop 1 row))) (type_kinds most own)) (get_or row 0 0) (bad Cause.Undefined 0) ≡ ok y m
  unfolding type_of
  kind_read = (tagged_inv (type_kinds most own) row e).1

  -- a type of another kind
  other_read : (get_or row 0 0 ≡ 4 → ⊥) → NoStruct y
  unfolding is_struct shape struct_fields_of
  other_read f = go (get_or row 0 0) f kind_read
    where
      no : {T : MirType} → is_struct (some T) ≡ false → struct_fields_of (some T) ≡ [] → NoStruct T
      no a b = record { told = a; fields = b }

      go : (k : ℕ) → (k ≡ 4 → ⊥) → get_or (map (λ f. later 1 (f (drop 1 row))) (type_kinds most own)) k (bad Cause.Undefined 0) ≡ ok y m → NoStruct y
      go zero f e = let p : y ≡ MirType.Felt = cc in rw p (no refl refl)
      go (suc zero) f e = let p : y ≡ MirType.Bool = cc in rw p (no refl refl)
      go (suc (suc zero)) f e = let p : y ≡ MirType.U32 = cc in rw p (no refl refl)
      go (suc (suc (suc zero))) f e =
          elim (later_inv 1 (map_parse MirType.Tuple (list_of most (type_id_of own) (drop 1 row))) e) [
            | behind k p q ↦ elim (map_inv MirType.Tuple (list_of most (type_id_of own) (drop 1 row)) p) [ image x g h ↦ rw h (no refl refl) ]
          ]
      go (suc (suc (suc (suc zero)))) f e = absurd (f refl)
      go (suc (suc (suc (suc (suc zero))))) f e =
          elim (later_inv 1 (and_then (drop 1 row) (type_id_of own (drop 1 row)) (λ t s. map_parse (λ size. MirType.FixedArray t size) (u32_of s))) e) [
            | behind k p q ↦
                elim (and_inv (drop 1 row) (type_id_of own (drop 1 row)) (λ t s. map_parse (λ size. MirType.FixedArray t size) (u32_of s)) p) [
                  | both a n j u v w ↦ elim (map_inv (λ size. MirType.FixedArray a size) (u32_of (drop n (drop 1 row))) v) [ image x g h ↦ rw h (no refl refl) ]
                ]
          ]
      go (suc (suc (suc (suc (suc (suc zero)))))) f e =
          elim (later_inv 1 (map_parse MirType.Pointer (type_id_of own (drop 1 row))) e) [
            | behind k p q ↦ elim (map_inv MirType.Pointer (type_id_of own (drop 1 row)) p) [ image x g h ↦ rw h (no refl refl) ]
          ]
      go (suc (suc (suc (suc (suc (suc (suc zero))))))) f e =
          elim (later_inv 1 (and_then (drop 1 row) (list_of most (type_id_of own) (drop 1 row)) (λ ps s. map_parse (λ r. MirType.Function ps r) (type_id_of own s))) e) [
            | behind k p q ↦
                elim (and_inv (drop 1 row) (list_of most (type_id_of own) (drop 1 row)) (λ ps s. map_parse (λ r. MirType.Function ps r) (type_id_of own s)) p) [
                  | both ps n j u v w ↦ elim (map_inv (λ r. MirType.Function ps r) (type_id_of own (drop n (drop 1 row))) v) [ image x g h ↦ rw h (no refl refl) ]
                ]
          ]
      go (suc (suc (suc (suc (suc (suc (suc (suc zero)))))))) f e = let p : y ≡ MirType.Unit = cc in rw p (no refl refl)
      go (suc (suc (suc (suc (suc (suc (suc (suc (suc zero))))))))) f e = let p : y ≡ MirType.Error = cc in rw p (no refl refl)
      go (suc (suc (suc (suc (suc (suc (suc (suc (suc (suc zero)))))))))) f e = let p : y ≡ MirType.Unknown = cc in rw p (no refl refl)
      go (suc (suc (suc (suc (suc (suc (suc (suc (suc (suc (suc k))))))))))) f e = absurd (no_ok e)

  -- a struct is of kind 4
  pub struct_kind : is_struct (some y) ≡ true → get_or row 0 0 ≡ 4
  struct_kind h = go (eqb (get_or row 0 0) 4) refl
    where
      go : (b : Bool) → eqb (get_or row 0 0) 4 ≡ b → get_or row 0 0 ≡ 4
      go true e = eqb-true (get_or row 0 0) 4 e
      go false e = absurd (let z : true ≡ false = sym h ∙ (other_read (eqb-false (get_or row 0 0) 4 e)).told in let w : ◌≡◌ {A = ℕ} 0 1 = cc in omega arith)

  -- what is read of kind 4
  struct_read : get_or row 0 0 ≡ 4 → StructAt own row y
  struct_read four = elim (later_inv 1 (struct_of most own (drop 1 row)) (rw four at kind_read)) [ behind k q r ↦ (struct_stands own row most).each y k q ]

  -- the fields of an accepted struct type
  pub type_fields : {n : NameId} {fs : List StructField} → y ≡ MirType.Struct n fs → FieldsIn own row fs
  unfolding is_struct shape
  type_fields {n} {fs} f = go (struct_read (struct_kind (ap (λ T. is_struct (some T)) f))) f
    where
      go : {z : MirType} → StructAt own row z → z ≡ MirType.Struct n fs → FieldsIn own row fs
      go (struct_at n' gs l c) g = let w : fs ≡ gs = cc in rw w (fields_in own row gs l c)

  -- those of any type, by its kind
  pub kind_fields : get_or row 0 0 ≡ 4 → FieldsIn own row (struct_fields_of (some y))
  unfolding struct_fields_of
  kind_fields four = go (struct_read four)
    where
      go : {z : MirType} → StructAt own row z → FieldsIn own row (struct_fields_of (some z))
      go (struct_at n fs l c) = fields_in own row fs l c

  pub other_fields : (get_or row 0 0 ≡ 4 → ⊥) → struct_fields_of (some y) ≡ []
  other_fields f = (other_read f).fields
