-- The table's rows are the kinds of types.
use Prim.Native.Nat.{ℕ, zero, suc, ◌≤◌, ◌<◌}
use mathlib.Core.Path.{◌≡◌, refl, ap, ◌∙◌, sym}
use mathlib.Core.List.{List, map}
use native.Mathlib.Omega.{arith}
use borrow.Author.Tests.{le-leb, lt-leb}
use lib.ListN.{length, get_or, drop, get_or-eq_default}
use Rattle.bytes_wire.specs.Parse.{Parse, ok, bad, later, and_then, map_parse}
use Rattle.bytes_wire.specs.declared.Cause.{Cause}
use Rattle.bytes_wire.proofs.Laws.{map_map, map_and, map_later, and_map, and_ok}
use Rattle.bytes_field.specs.Walk.{Walk, simple_walk, field_walk, row_walk, unit}
use Rattle.bytes_field.specs.declared.Bounds.{Bounds}
use Rattle.bytes_field.proofs.Rows.{types_list}
use Rattle.bytes_row.specs.declared.class.Class.{Class}
use Rattle.bytes_row.specs.Class.{number_of_row}
use Rattle.bytes_row.proofs.Rows.{at_most}
use Rattle.bytes_types.specs.Decode.{struct_of, type_kinds, type_of, type_rows}

-- the kind at the first byte, by the kind's number k
chosen : (most own : ℕ) (s : List ℕ) → 1 ≤ length s → type_of most own s ≡ get_or (map (λ f. later 1 (f (drop 1 s))) (type_kinds most own)) (get_or s 0 0) (bad Cause.Undefined 0)
unfolding type_of
chosen most own s h = rw (le-leb _ _ h)

module _ (most own : ℕ) (s : List ℕ) where
  -- there is no byte for the kind
  pub type_none : length s < 1 → bad Cause.Truncated 0 ≡ map_parse unit (type_of most own s)
  unfolding type_of
  type_none h = sym (rw (lt-leb _ _ h))

  -- it is no kind
  pub type_undefined : 1 ≤ length s → 11 ≤ get_or s 0 0 → bad Cause.Undefined 0 ≡ map_parse unit (type_of most own s)
  type_undefined h l =
      sym (ap (map_parse unit) (chosen most own s h
      ∙ get_or-eq_default (map (λ f. later 1 (f (drop 1 s))) (type_kinds most own)) (bad Cause.Undefined 0) {n = get_or s 0 0} l))

  -- it is a Struct
  pub type_struct : 1 ≤ length s → get_or s 0 0 ≡ 4 → later 1 (map_parse unit (struct_of most own (drop 1 s))) ≡ map_parse unit (type_of most own s)
  type_struct h e = sym (rw (chosen most own s h, e) (map_later unit 1 (struct_of most own (drop 1 s))))

-- the row of a kind says what its decoder does
kind_type : (b : Bounds) (w : Walk) (t : List ℕ) (k : ℕ) → k < 11 → (k ≡ 4 → ⊥) → map_parse unit (later 1 (row_walk b 0 5 (get_or type_rows k 0) w t)) ≡ map_parse unit (get_or (map (λ f. later 1 (f t)) (type_kinds b.list b.types)) k (bad Cause.Undefined 0))
unfolding row_walk field_walk simple_walk
kind_type b w t zero h g = refl
kind_type b w t (suc zero) h g = refl
kind_type b w t (suc (suc zero)) h g = refl
kind_type b w t (suc (suc (suc zero))) h g = simp (map_later, and_map, map_map, and_ok, types_list)
kind_type b w t (suc (suc (suc (suc zero)))) h g = absurd (g refl)
kind_type b w t (suc (suc (suc (suc (suc zero))))) h g = simp (map_later, and_map, map_and, map_map, and_ok)
kind_type b w t (suc (suc (suc (suc (suc (suc zero)))))) h g = simp (map_later, and_map, map_map, and_ok)
kind_type b w t (suc (suc (suc (suc (suc (suc (suc zero))))))) h g = simp (map_later, and_map, map_and, map_map, and_ok, types_list)
kind_type b w t (suc (suc (suc (suc (suc (suc (suc (suc zero)))))))) h g = refl
kind_type b w t (suc (suc (suc (suc (suc (suc (suc (suc (suc zero))))))))) h g = refl
kind_type b w t (suc (suc (suc (suc (suc (suc (suc (suc (suc (suc zero)))))))))) h g = refl
kind_type b w t (suc (suc (suc (suc (suc (suc (suc (suc (suc (suc (suc k))))))))))) h g = absurd (omega arith)

-- it is another kind
type_row : (b : Bounds) (w : Walk) (s : List ℕ) → 1 ≤ length s → get_or s 0 0 < 11 → (get_or s 0 0 ≡ 4 → ⊥) → map_parse unit (and_then s (ok w 1) (λ v t. row_walk b 0 5 (get_or type_rows (get_or s 0 0) 0) v t)) ≡ map_parse unit (type_of b.list b.types s)
type_row b w s h l g = kind_type b w (drop 1 s) (get_or s 0 0) l g ∙ sym (ap (map_parse unit) (chosen b.list b.types s h))

-- and what was made of the walk over its row is what is made of the type
pub read_row : (b : Bounds) (w : Walk) (s : List ℕ) {k : ℕ} (row : List Class) {d : Parse (Unit {0})} {q : Parse Walk} → k ≡ get_or s 0 0 → number_of_row row ≡ get_or type_rows k 0 → length row ≤ 5 → d ≡ map_parse unit q → q ≡ and_then s (ok w 1) (λ v t. row_walk b 0 (length row) (number_of_row row) v t) → 1 ≤ length s → get_or s 0 0 < 11 → (get_or s 0 0 ≡ 4 → ⊥) → d ≡ map_parse unit (type_of b.list b.types s)
read_row b w s row i j few e f h l g =
    e ∙ ap (map_parse unit) (at_most b 0 s (ok w 1) row 5 few f ∙ ap (λ r. and_then s (ok w 1) (λ v t. row_walk b 0 5 r v t)) (j ∙ ap (λ m. get_or type_rows m 0) i))
    ∙ type_row b w s h l g
