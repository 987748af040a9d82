-- A struct's fields, one after another.
use Prim.Native.Nat.{ℕ, suc, ◌+◌, ◌-◌, ◌*◌, ◌≤◌, ◌<◌, zero-le}
use mathlib.Core.Path.{◌≡◌, refl, ap, ◌∙◌, sym}
use mathlib.Core.List.{List, [], ◌∷◌}
use mathlib.Core.Bool.{false, not}
use native.Mathlib.Nat.{add-zero, add_assoc, sub-zero}
use native.Mathlib.Omega.{arith}
use borrow.Author.Tests.{le-leb, lt-leb}
use lib.ListN.{length, get_or, drop, length-drop}
use lib.Dec.{leb}
use lib.Seq.{drop-drop, get_or-drop}
use Rattle.std.specs.Prelude.{Result, Ok, Err}
use Rattle.bytes_wire.specs.declared.Refusal.{Refusal}
use Rattle.bytes_wire.specs.Parse.{Parse, ok, bad, later, and_then, map_parse}
use Rattle.bytes_wire.specs.Number.{u8_of, u16_of, below, counted, at16}
use Rattle.bytes_wire.specs.declared.Cause.{Cause}
use Rattle.mir.specs.declared.NameId.{NameId}
use Rattle.mir.specs.declared.TypeId.{TypeId}
use Rattle.bytes_wire.proofs.Laws.{map_map, map_later, later_later, number_short, number_some, from_8, from_16}
use Rattle.bytes_wire.proofs.Inv.{no_ok, both, behind, image, later_inv, and_inv, map_inv, checked_inv, number_inv, below_inv, map_bad}
use Rattle.bytes_field.specs.Decode.{type_id_of, name_id_of}
use Rattle.bytes_field.specs.Walk.{unit, as_part}
use Rattle.bytes_types.specs.Decode.{has_name, new_name_of, struct_fields, struct_of}
use Rattle.bytes_types.specs.Index.{names_at, field_of}

-- where the second of two decoders refuses, one behind it is not asked
refused : {A B C : Type 0} (t : List ℕ) (d : Parse A) (e : List ℕ → Parse B) (g : A → B → List ℕ → Parse C) {c : Cause} {o : ℕ} → and_then t d (λ a u. e u) ≡ bad c o → and_then t d (λ a u. and_then u (e u) (g a)) ≡ bad c o
refused t (ok a n) e g {c} {o} h = inner (e (drop n t)) h
  where
    inner : (x : Parse _) → later n x ≡ bad c o → later n (and_then (drop n t) x (g a)) ≡ bad c o
    inner (ok b m) k = absurd (no_ok (sym k))
    inner (bad q m) k = let i : q ≡ c = cc in let j : n + m ≡ o = cc in rw (i, j)
refused t (bad q m) e g {c} {o} h = let i : q ≡ c = cc in let j : m ≡ o = cc in rw (i, j)

-- a refused field
pub field_bad : (own : ℕ) (names : List NameId) (k : ℕ) (t : List ℕ) {c : Cause} {o : ℕ} → map_parse unit (field_of own names t) ≡ bad c o → map_parse unit (struct_fields own names (suc k) t) ≡ bad c o
unfolding struct_fields
field_bad own names k t e =
    ap (map_parse unit) (refused t (new_name_of names t) (type_id_of own)
    (λ n p u. map_parse (λ fs. record { name = n; part = p } ∷ fs) (struct_fields own (n ∷ names) k u))
    (map_bad unit (field_of own names t) e))

-- the parts of a field that was read
pub record Field (own : ℕ) (names : List NameId) (t : List ℕ) (n : ℕ) : Type 0 where
  pub long : 4 ≤ length t
  pub four : n ≡ 4
  pub type : TypeId
  pub first : new_name_of names t ≡ ok (record { 0 = at16 t 0 }) 2
  pub second : type_id_of own (drop 2 t) ≡ ok type 2

-- it has them
pub field_parts : (own : ℕ) (names : List NameId) (t : List ℕ) {n : ℕ} → map_parse unit (field_of own names t) ≡ ok tt n → Field own names t n
field_parts own names t {n} e =
    elim (map_inv unit (field_of own names t) e) [
      | image p f g ↦
          elim (and_inv t (new_name_of names t) (λ x u. type_id_of own u) f) [
            | both x m k a b r ↦
                elim (map_inv (λ y. record { 0 = y }) (u16_of t) (checked_inv Cause.Repeated (λ y. not (has_name y names)) (name_id_of t) a).0) [
                  | image y h i ↦
                      let v = number_inv 2 t h in
                      let z = v.2 in
                      let b' = rw z at b in
                      elim (map_inv (λ y. record { 0 = y }) (below own (drop 2 t)) b') [
                        | image q l j ↦
                            let w = number_inv 2 (drop 2 t) (below_inv own (drop 2 t) l).0 in
                            record {
                              long = omega (arith, v.0, w.0, length-drop 2 t);
                              four = omega (arith, r, v.2, w.2);
                              type = p;
                              first = a ∙ rw (i, z, v.1, from_16 t 0);
                              second = b' ∙ rw w.2;
                            }
                      ]
                ]
          ]
    ]

-- the fields behind it
pub field_behind : (own : ℕ) (names : List NameId) (k : ℕ) (t : List ℕ) (n : ℕ) → Field own names t n → map_parse unit (struct_fields own names (suc k) t) ≡ later 4 (map_parse unit (struct_fields own (record { 0 = at16 t 0 } ∷ names) k (drop 4 t)))
unfolding struct_fields
field_behind own names k t n f = simp (f.first, f.second, drop-drop, later_later, map_later, map_map)

-- two bytes of a number were there
pub two_left : (s : List ℕ) (at : ℕ) {x n : ℕ} → at ≤ length s → u16_of (drop at s) ≡ ok x n → at + 2 ≤ length s
two_left s at h e = omega (arith, (number_inv 2 (drop at s) e).0, length-drop at s)

-- a field that stands at a place
module _ (own : ℕ) (names : List NameId) (s : List ℕ) (at : ℕ) where
  -- its type is refused
  pub field_no_type : {x n o : ℕ} {c : Cause} → u16_of (drop at s) ≡ ok x n → has_name (record { 0 = x }) names ≡ false → below own (drop (at + 2) s) ≡ bad c o → bad c (at + 2 + o) ≡ later at (map_parse unit (field_of own names (drop at s)))
  field_no_type {x} {n} {o} {c} e h f =
      let z : n ≡ 2 = (number_inv 2 (drop at s) e).2 in
      sym (simp (e, z, h, drop-drop, f) (ap (bad c) (sym (add_assoc at 2 o))))

  -- its type is below its own number
  pub field_some : {x n y m : ℕ} → u16_of (drop at s) ≡ ok x n → has_name (record { 0 = x }) names ≡ false → below own (drop (at + 2) s) ≡ ok y m → ok tt (at + 2 + m) ≡ later at (map_parse unit (field_of own names (drop at s)))
  field_some {x} {n} {y} {m} e h f =
      let z : n ≡ 2 = (number_inv 2 (drop at s) e).2 in
      sym (simp (e, z, h, drop-drop, f) (ap (ok tt) (sym (add_assoc at 2 m))))

-- of `count` fields that begin at `from` i are behind
pub record FieldsUpto (own : ℕ) (s : List ℕ) (from count i at : ℕ) : Type 0 where
  pub under : i ≤ count
  pub here : at ≡ from + 4 * i
  pub within : at ≤ length s
  pub left : later from (map_parse unit (struct_fields own [] count (drop from s))) ≡ later at (map_parse unit (struct_fields own (names_at s from i) (count - i) (drop at s)))

-- the name of a field that stands at a place
name_at : (s : List ℕ) (at : ℕ) → at16 (drop at s) 0 ≡ at16 s at
name_at s at = rw (get_or-drop at s 0 0, get_or-drop at s 1 0, add-zero)

module _ (own : ℕ) (s : List ℕ) (from count i at : ℕ) (u : FieldsUpto own s from count i at) where
  -- one more is behind
  pub fields_again : {r : Result ℕ Refusal} {n : ℕ} → i < count → as_part r ≡ later (from + 4 * i) (map_parse unit (field_of own (names_at s from i) (drop (from + 4 * i) s))) → r ≡ Ok n → FieldsUpto own s from count (i + 1) n
  fields_again {r} {n} h e f₀ =
      let a = from + 4 * i in
      let names = names_at s from i in
      elim (later_inv a (map_parse unit (field_of own names (drop a s))) (sym e ∙ ap as_part f₀)) [
        | behind k p q ↦
            let f = field_parts own names (drop a s) p in
            let m = count - (i + 1) in
            let z : count - i ≡ suc m = omega arith in
            let g : i + 1 ≡ suc i = omega arith in
            let j : n ≡ a + 4 = omega (arith, f.four) in
            record {
              under = omega arith;
              here = omega arith;
              within = omega (arith, f.long, length-drop a s);
              left = u.left ∙ rw (u.here, z, field_behind own names m (drop a s) k f, name_at s a, later_later, drop-drop, g, j);
            }
      ]

  -- the next one is refused
  pub fields_stop : {r : Result ℕ Refusal} {y : Refusal} → i < count → as_part r ≡ later (from + 4 * i) (map_parse unit (field_of own (names_at s from i) (drop (from + 4 * i) s))) → r ≡ Err y → bad y.cause y.offset ≡ later from (map_parse unit (struct_fields own [] count (drop from s)))
  fields_stop {r} {y} h e f =
      let a = from + 4 * i in
      let names = names_at s from i in
      let m = count - (i + 1) in
      let z : count - i ≡ suc m = omega arith in
      sym (u.left ∙ rw (u.here, z) (go (map_parse unit (field_of own names (drop a s))) refl (sym e ∙ ap as_part f)))
    where
      go : (d : Parse (Unit {0})) → map_parse unit (field_of own (names_at s from i) (drop (from + 4 * i) s)) ≡ d → later (from + 4 * i) d ≡ bad y.cause y.offset → later (from + 4 * i) (map_parse unit (struct_fields own (names_at s from i) (suc (count - (i + 1))) (drop (from + 4 * i) s))) ≡ bad y.cause y.offset
      go (ok x n) p q = absurd (no_ok (sym q))
      go (bad k n) p q = rw (field_bad own (names_at s from i) (count - (i + 1)) (drop (from + 4 * i) s) p) q

  -- all are behind
  pub fields_done : count ≤ i → ok tt at ≡ later from (map_parse unit (struct_fields own [] count (drop from s)))
  unfolding struct_fields
  fields_done h = let z : count - i ≡ 0 = omega arith in sym (u.left ∙ rw (z, add-zero))

-- a Struct, whose kind is the first byte
module _ (most own : ℕ) (s : List ℕ) where
  -- its name is refused
  pub struct_name : {c : Cause} {o : ℕ} → u16_of (drop 1 s) ≡ bad c o → bad c (1 + o) ≡ later 1 (map_parse unit (struct_of most own (drop 1 s)))
  unfolding struct_of
  struct_name e = sym (rw e)

  -- the count behind it is refused
  pub struct_uncounted : {x n o : ℕ} {c : Cause} → u16_of (drop 1 s) ≡ ok x n → counted most (u8_of (drop 3 s)) ≡ bad c o → bad c (3 + o) ≡ later 1 (map_parse unit (struct_of most own (drop 1 s)))
  unfolding struct_of
  struct_uncounted {x} {n} {o} {c} e f =
      let z : n ≡ 2 = (number_inv 2 (drop 1 s) e).2 in
      sym (simp (e, z, drop-drop, f) (ap (bad c) (sym (add_assoc 1 2 o))))

  -- as many fields as the count says
  pub struct_some : {x n k m : ℕ} → u16_of (drop 1 s) ≡ ok x n → counted most (u8_of (drop 3 s)) ≡ ok k m → later 4 (map_parse unit (struct_fields own [] k (drop 4 s))) ≡ later 1 (map_parse unit (struct_of most own (drop 1 s)))
  unfolding struct_of
  struct_some {x} {n} {k} {m} e f =
      let z : n ≡ 2 = (number_inv 2 (drop 1 s) e).2 in
      let y : m ≡ 1 = (number_inv 1 (drop 3 s) (checked_inv Cause.TooMany (λ j. leb j most) (u8_of (drop 3 s)) f).0).2 in
      sym (simp (e, z, drop-drop, f, y, map_later, map_map, later_later))

  -- the fields begin within the bytes
  pub struct_long : {k m : ℕ} → counted most (u8_of (drop 3 s)) ≡ ok k m → 4 ≤ length s
  struct_long f = omega (arith, (number_inv 1 (drop 3 s) (checked_inv Cause.TooMany (λ j. leb j most) (u8_of (drop 3 s)) f).0).0, length-drop 3 s)
