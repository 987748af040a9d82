-- What stands where in the instructions that are rewritten.
use Prim.Native.Nat.{ℕ, ◌+◌, ◌≤◌, ◌<◌}
use mathlib.Core.Path.{◌≡◌, refl, ap, ◌∙◌}
use mathlib.Core.List.{List, []}
use mathlib.Core.Bool.{Bool, false, not}
use native.Mathlib.Omega.{arith}
use borrow.Author.Tests.{leb-true}
use lib.ListN.{length, get_or, drop}
use lib.Seq.{drop-drop}
use lib.Dec.{leb}
use Rattle.bytes_wire.specs.Parse.{Parse, ok, and_then, map_parse, seq_of}
use Rattle.bytes_wire.specs.Number.{number_of, below, u8_of, u32_of, at16, at32}
use Rattle.bytes_wire.specs.Value.{value_of, value_id_of}
use Rattle.bytes_wire.specs.declared.Cause.{Cause}
use Rattle.mir.specs.declared.Value.{Value}
use Rattle.mir.specs.declared.ValueId.{ValueId}
use Rattle.mir.specs.declared.TypeId.{TypeId}
use Rattle.mir.specs.declared.NameId.{NameId}
use Rattle.bytes_wire.proofs.Laws.{from_16, from_32}
use Rattle.bytes_wire.proofs.Inv.{both, image, and_inv, map_inv, checked_inv, number_inv, below_inv, seq_length}
use Rattle.mir.specs.Syntax.{Place, FieldInit, InstructionKind}
use Rattle.bytes_field.specs.Decode.{type_id_of, name_id_of, count_of, list_of, defined_of, place_of, field_init_of, assign_of, load_of, make_tuple_of, make_array_of, make_struct_of, extract_tuple_of, extract_field_of, insert_field_of, insert_tuple_of}
use Rattle.bytes_field.specs.declared.Bounds.{Bounds}
use Rattle.bytes_field.proofs.Laws.{head}
use Rattle.bytes_operands.specs.Fields.{value_size, value_end}
use Rattle.bytes_operands.proofs.Places.{Stand, Field, then, last}
use Rattle.bytes_operands.proofs.EachKind.{At, at, value_size_lem}

-- a field whose end is not known, and the rest behind it
any : {A B : Type 0} {t : List ℕ} {from : ℕ} {dec : List ℕ → Parse A} {f : A → List ℕ → Parse B} {Q : A → ℕ → Type 0} {P : B → ℕ → Type 0} → Stand t from dec Q → ((a : A) (end : ℕ) → Q a end → Stand t end (f a) P) → Stand t from (λ s. and_then s (dec s) f) P
any {A} {B} {t} {from} {dec} {f} {Q} {P} x y =
    record {
      each = λ b n e.
          elim (and_inv (drop from t) (dec (drop from t)) f e) [
            | both a m j p q r ↦
                let k : f a (drop (from + m) t) ≡ ok b j = rw (drop-drop m from t) at q in
                let z : from + n ≡ from + m + j = omega arith in
                rw z ((y a (from + m) (x.each a m p)).each b j k)
          ];
    }

-- one of which nothing is known
free : {A : Type 0} {t : List ℕ} {from : ℕ} (dec : List ℕ → Parse A) → Stand t from dec (λ a e. Unit {0})
free dec = record { each = λ a n e. tt }

-- a list has at most as many as it may
few : {A : Type 0} (most : ℕ) (dec : List ℕ → Parse A) {t : List ℕ} {p : ℕ} → Stand t p (list_of most dec) (λ xs e. length xs ≤ most)
unfolding list_of
few most dec {t} {p} =
    record {
      each = λ xs n e.
          let s = drop p t in
          elim (and_inv s (count_of most s) (λ n t. seq_of dec n t) e) [
            | both k m j f g r ↦
                let w = checked_inv Cause.TooMany (λ n. leb n most) (u8_of s) f in
                omega (arith, seq_length dec k (drop m s) g, leb-true k most w.1)
          ];
    }

-- the last field, with what is known of it
kept_last : {A B : Type 0} {t : List ℕ} {from : ℕ} {dec : List ℕ → Parse A} {Q : A → ℕ → Type 0} {P : B → ℕ → Type 0} (g : A → B) → Stand t from dec Q → ((a : A) (e : ℕ) → Q a e → P (g a) e) → Stand t from (λ s. map_parse g (dec s)) P
kept_last {A} {B} {t} {from} {dec} g x y = record { each = λ b n e. elim (map_inv g (dec (drop from t)) e) [ image a p q ↦ rw q (y a (from + n) (x.each a n p)) ] }

-- what stands last: a type's number
pub record Named (t : List ℕ) (y : TypeId) (end : ℕ) : Type 0 where
  pub place : ℕ
  pub ends : place + 2 ≡ end
  pub named : y.0 ≡ at16 t place

module _ (b : Bounds) (t : List ℕ) where
  -- a value's number, which is below the next
  abbrev pub Dest : ℕ → ValueId → Type 0
  Dest p d = (d.0 ≡ at16 t p) × (d.0 < b.next)

  -- numbers that take two bytes
  id_field : {p : ℕ} → Field t p (value_id_of b.next) (Dest p) (p + 2)
  id_field {p} =
      record {
        each = λ a n e.
            elim (map_inv (λ x. record { 0 = x }) (below b.next (drop p t)) e) [
              | image x f g ↦ let w = below_inv b.next (drop p t) f in
                  let h = number_inv 2 (drop p t) w.0 in
                  let z : a.0 ≡ x = ap (λ (y : ValueId). y.0) g in
                  ((z ∙ h.1 ∙ from_16 t p, omega (arith, w.1)), ap (λ m. p + m) h.2)
            ];
      }

  dest : {p : ℕ} → Field t p (defined_of b.next []) (Dest p) (p + 2)
  dest {p} = record { each = λ a n e. (id_field {p = p}).each a n (checked_inv Cause.Redefined (λ d. not (get_or [] d.0 false)) (value_id_of b.next (drop p t)) e).0 }

  type : {p : ℕ} → Field t p (type_id_of b.types) (λ y. Named t y (p + 2)) (p + 2)
  type {p} =
      record {
        each = λ a n e.
            elim (map_inv (λ x. record { 0 = x }) (below b.types (drop p t)) e) [
              | image x f g ↦ let h = number_inv 2 (drop p t) (below_inv b.types (drop p t) f).0 in (record { place = p; ends = refl; named = ap (λ (y : TypeId). y.0) g ∙ h.1 ∙ from_16 t p }, ap (λ m. p + m) h.2)
            ];
      }

  name : {p : ℕ} → Field t p name_id_of (λ a. a.0 ≡ at16 t p) (p + 2)
  name {p} =
      record {
        each = λ a n e.
            elim (map_inv (λ x. record { 0 = x }) (number_of 2 (drop p t)) e) [
              | image x f g ↦ let h = number_inv 2 (drop p t) f in (ap (λ (y : NameId). y.0) g ∙ h.1 ∙ from_16 t p, ap (λ m. p + m) h.2)
            ];
      }

  -- four bytes
  index : {p : ℕ} → Field t p u32_of (λ k. k ≡ at32 t p) (p + 4)
  index {p} = record { each = λ a n e. let h = number_inv 4 (drop p t) e in (h.1 ∙ from_32 t p, ap (λ m. p + m) h.2) }

  -- a value
  value : {p : ℕ} → Field t p (value_of b.next) (At (value_of b.next) t p) (value_end t p)
  value {p} = record { each = λ a n e. (at n e, ap (λ m. p + m) (value_size_lem b.next (drop p t) e ∙ ap value_size (head t p))) }

  -- the kinds
  pub data IsAssign : InstructionKind → ℕ → Type 0 where
    is_assign : {end : ℕ} (d : ValueId) (x : Value) (y : TypeId) → Dest 0 d → At (value_of b.next) t 2 x → Named t y end → IsAssign (InstructionKind.Assign d x y) end

  pub assign_stands : Stand t 0 (assign_of b []) IsAssign
  unfolding assign_of
  assign_stands = then dest (λ d e. then value (λ x v. last _ type (λ y u. is_assign d x y e v u)))

  pub data IsLoad : InstructionKind → ℕ → Type 0 where
    is_load : {end : ℕ} (d : ValueId) (p : Place) (y : TypeId) → Dest 0 d → Named t y end → IsLoad (InstructionKind.Load d p y) end

  pub load_stands : Stand t 0 (load_of b []) IsLoad
  unfolding load_of
  load_stands = then dest (λ d e. any (free (place_of b)) (λ p end w. last _ type (λ y u. is_load d p y e u)))

  pub data IsTuple : InstructionKind → ℕ → Type 0 where
    is_tuple_lem : {end : ℕ} (d : ValueId) (xs : List Value) → Dest 0 d → length xs ≤ b.list → IsTuple (InstructionKind.MakeTuple d xs) end

  pub tuple_stands : Stand t 0 (make_tuple_of b []) IsTuple
  unfolding make_tuple_of
  tuple_stands = then dest (λ d e. kept_last _ (few b.list (value_of b.next)) (λ xs end w. is_tuple_lem d xs e w))

  pub data IsArray : InstructionKind → ℕ → Type 0 where
    is_array_lem : {end : ℕ} (d : ValueId) (xs : List Value) (y : TypeId) (c : Bool) → Dest 0 d → length xs ≤ b.list → IsArray (InstructionKind.MakeFixedArray d xs y c) end

  pub array_stands : (c : Bool) → Stand t 0 (make_array_of b [] c) IsArray
  unfolding make_array_of
  array_stands c = then dest (λ d e. any (few b.list (value_of b.next)) (λ xs end w. last _ type (λ y u. is_array_lem d xs y c e w)))

  pub data IsStruct : InstructionKind → ℕ → Type 0 where
    is_struct_lem : {end : ℕ} (d : ValueId) (fs : List FieldInit) (y : TypeId) → Dest 0 d → Named t y end → IsStruct (InstructionKind.MakeStruct d fs y) end

  pub struct_stands : Stand t 0 (make_struct_of b []) IsStruct
  unfolding make_struct_of
  struct_stands = then dest (λ d e. any (few b.list (field_init_of b)) (λ fs end w. last _ type (λ y u. is_struct_lem d fs y e u)))

  pub data IsElement : InstructionKind → ℕ → Type 0 where
    is_element : {end : ℕ} (d : ValueId) (x : Value) (k : ℕ) (y : TypeId) → Dest 0 d → At (value_of b.next) t 2 x → k ≡ at32 t (value_end t 2) → Named t y end → IsElement (InstructionKind.ExtractTupleElement d x k y) end

  pub element_stands : Stand t 0 (extract_tuple_of b []) IsElement
  unfolding extract_tuple_of
  element_stands = then dest (λ d e. then value (λ x v. then index (λ k q. last _ type (λ y u. is_element d x k y e v q u))))

  pub data IsField : InstructionKind → ℕ → Type 0 where
    is_field : {end : ℕ} (d : ValueId) (x : Value) (f : NameId) (y : TypeId) → Dest 0 d → At (value_of b.next) t 2 x → f.0 ≡ at16 t (value_end t 2) → Named t y end → IsField (InstructionKind.ExtractStructField d x f y) end

  pub field_stands : Stand t 0 (extract_field_of b []) IsField
  unfolding extract_field_of
  field_stands = then dest (λ d e. then value (λ x v. then name (λ f q. last _ type (λ y u. is_field d x f y e v q u))))

  pub data IsInsertField : InstructionKind → ℕ → Type 0 where
    is_insert_field : {end : ℕ} (d : ValueId) (x : Value) (f : NameId) (z : Value) (y : TypeId) → Dest 0 d → At (value_of b.next) t 2 x → f.0 ≡ at16 t (value_end t 2) → At (value_of b.next) t (value_end t 2 + 2) z → Named t y end → IsInsertField (InstructionKind.InsertField d x f z y) end

  pub insert_field_stands : Stand t 0 (insert_field_of b []) IsInsertField
  unfolding insert_field_of
  insert_field_stands = then dest (λ d e. then value (λ x v. then name (λ f q. then value (λ z w. last _ type (λ y u. is_insert_field d x f z y e v q w u)))))

  pub data IsInsertElement : InstructionKind → ℕ → Type 0 where
    is_insert_element : {end : ℕ} (d : ValueId) (x : Value) (k : ℕ) (z : Value) (y : TypeId) → Dest 0 d → At (value_of b.next) t 2 x → k ≡ at32 t (value_end t 2) → At (value_of b.next) t (value_end t 2 + 4) z → IsInsertElement (InstructionKind.InsertTuple d x k z y) end

  pub insert_element_stands : Stand t 0 (insert_tuple_of b []) IsInsertElement
  unfolding insert_tuple_of
  insert_element_stands = then dest (λ d e. then value (λ x v. then index (λ k q. then value (λ z w. last _ type (λ y u. is_insert_element d x k z y e v q w)))))
