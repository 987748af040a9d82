-- A type's row says which literals fit it, the types of its parts, how many it has, and what it points to.
use Prim.Native.Nat.{ℕ, zero, suc, ◌+◌, ◌*◌, ◌<◌}
use mathlib.Core.Path.{◌≡◌, refl, ap, ◌∙◌, sym}
use mathlib.Core.List.{List, [], ◌∷◌}
use mathlib.Core.Bool.{true, false, cond}
use mathlib.Core.Bool as B
use mathlib.Core.Option.{Option, none, some}
use native.Mathlib.Omega.{arith}
use borrow.Author.Tests.{ltb-true, ltb-false}
use lib.ListN.{length, get_or, get_elem?, drop}
use lib.Dec.{ltb}
use Rattle.std.specs.Prelude.{Option as Answered}
use Rattle.bytes_wire.specs.Parse.{ok, and_then, map_parse}
use Rattle.bytes_wire.specs.Number.{u32_of, at32}
use Rattle.mir.specs.declared.TypeId.{TypeId}
use Rattle.bytes_wire.proofs.Laws.{from_32}
use Rattle.bytes_wire.proofs.Inv.{no_ok, behind, later_inv, number_inv, tagged_inv}
use Rattle.bytes_field.specs.Decode.{type_id_of, list_of}
use Rattle.mir.specs.MirType.{MirType}
use Rattle.mir.specs.Option.{as_option}
use Rattle.bytes_types.specs.Decode.{struct_of, type_kinds, type_of}
use Rattle.bytes_index.specs.declared.code.Code.{Code}
use Rattle.fold_shapes.specs.Shapes.{row_in}
use Rattle.fold_shapes.proofs.Rows.{row_holds}
use Rattle.bytes_operands.specs.Fields.{after}
use Rattle.bytes_operands.proofs.Places.{Stand, Field, then, last, made, because, Listed, empty, ◌&◌, apart, list}
use Rattle.bytes_struct.proofs.Placed.{TypeBelow, type_field, StructAt, struct_at, struct_stands}
use Rattle.mir.specs.Lookup.{row_of}
use Rattle.mir.specs.Parts.{field_type, part_type, part_count, counts}
use Rattle.shelf.specs.Fits.{scalar_kind}
use Rattle.shelf.specs.Agrees.{pointee}
use Rattle.table.proofs.Elements.{none_at}
use Rattle.shelf_rows.specs.Rows.{kind_at, type_in, Tells, Typed}

module _ (own : ℕ) (t : List ℕ) where
  -- the part's number stands at a place
  Part : ℕ → TypeId → Type 0
  Part p a = type_in t p ≡ a

  -- so it does where a type below its own stands
  part_number : {p : ℕ} {a : TypeId} → TypeBelow own t p a → Part p a
  unfolding Part
  part_number {p} {a} e = ap (λ (x : ℕ). record { 0 = x }) e.number

  -- and where a part is read
  part_read : {p : ℕ} → Field t p (type_id_of own) (Part p) (p + 2)
  part_read = record { each = λ a n e. let h = (type_field own t).each a n e in (part_number h.0, h.1) }

  -- thing k of those that stand one behind another
  number_at : {A : Type 0} {Q : ℕ → A → Type 0} {end : ℕ → ℕ} {p : ℕ} {xs : List A} (f : Option A → Option TypeId) (off : ℕ) → ((q : ℕ) (x : A) → Q q x → some (type_in t (q + off)) ≡ f (some x)) → Listed Q end p xs → (k : ℕ) → k < length xs → some (type_in t (after end k p + off)) ≡ f (get_elem? xs k)
  unfolding after
  number_at f off g empty k h = absurd (omega arith)
  number_at f off g (q & qs) zero h = g _ _ q
  number_at f off g (q & qs) (suc k) h = number_at f off g qs k (omega arith)

  -- thing k of n
  number_of : {A : Type 0} {Q : ℕ → A → Type 0} {p : ℕ} {xs : List A} (w : ℕ) (f : Option A → Option TypeId) (off n at k : ℕ) → f none ≡ none → ((q : ℕ) (x : A) → Q q x → some (type_in t (q + off)) ≡ f (some x)) → Listed Q (λ q. q + w) p xs → length xs ≡ n → p + w * k + off ≡ at → cond (ltb k n) (some (type_in t at)) none ≡ f (get_elem? xs k)
  number_of {p} {xs} w f off n at k z g l m e = go (ltb k n) refl
    where
      go : (b : B.Bool) → ltb k n ≡ b → cond b (some (type_in t at)) none ≡ f (get_elem? xs k)
      go true h =
          let y : after (λ q. q + w) k p + off ≡ at = ap (λ i. i + off) (apart w k p) ∙ e in
          ap (λ i. some (type_in t i)) (sym y) ∙ number_at f off g l k (omega (arith, ltb-true k n h))
      go false h = sym (rw (none_at xs k (omega (arith, ltb-false k n h)), z))

  -- a Tuple
  tuple_tells : (most : ℕ) → kind_at t ≡ 3 → Stand t 1 (λ s. map_parse MirType.Tuple (list_of most (type_id_of own) s)) (λ y e. Tells (some y) t)
  unfolding scalar_kind part_type part_count counts pointee Part
  tuple_tells most d =
      last _ (list {Q = Part} (λ q. part_read) most 1) (λ ts r.
      record {
        scalar = rw d;
        part = λ k. rw d (number_of 2 (λ o. o) 0 (get_or t 1 0) (2 + 2 * k) k refl (λ q x h. let z : q + 0 ≡ q = omega arith in rw z (ap (λ x. some x) h)) r.0 r.1 (omega arith));
        parts = λ n. rw (d, r.1);
        points = rw d;
      })

  -- a Struct
  struct_tells : (most : ℕ) → kind_at t ≡ 4 → Stand t 1 (struct_of most own) (λ y e. Tells (some y) t)
  unfolding scalar_kind part_type part_count counts pointee field_type Part
  struct_tells most d = because (struct_stands own t most) (λ y e. go)
    where
      go : {y : MirType} → StructAt own t y → Tells (some y) t
      go (struct_at n fs l c) =
          record {
            scalar = rw d;
            part = λ k. rw d (number_of 4 field_type 2 (get_or t 3 0) (6 + 4 * k) k refl (λ q x h. ap (λ x. some x) (part_number h.typed)) l c (omega arith));
            parts = λ j. rw (d, c);
            points = rw d;
          }

  -- a size
  size_field : {p : ℕ} → Field t p u32_of (λ n. at32 t p ≡ n) (p + 4)
  size_field {p} = record { each = λ a n e. let h = number_inv 4 (drop p t) e in (sym (h.1 ∙ from_32 t p), ap (λ m. p + m) h.2) }

  -- a FixedArray
  array_tells : kind_at t ≡ 5 → Stand t 1 (λ s. and_then s (type_id_of own s) (λ p s. map_parse (λ size. MirType.FixedArray p size) (u32_of s))) (λ y e. Tells (some y) t)
  unfolding scalar_kind part_type part_count counts pointee Part
  array_tells d =
      then part_read (λ a v.
      last _ size_field (λ size r.
      record { scalar = rw d; part = λ k. rw d (ap (λ x. some x) v); parts = λ n. rw (d, r); points = rw d }))

  -- a Pointer
  pointer_tells : kind_at t ≡ 6 → Stand t 1 (λ s. map_parse MirType.Pointer (type_id_of own s)) (λ y e. Tells (some y) t)
  unfolding scalar_kind part_type part_count counts pointee Part
  pointer_tells d = last _ part_read (λ a v. record { scalar = rw d; part = λ k. rw d; parts = λ n. rw d; points = rw d (ap (λ x. some x) v) })

  -- a Function
  function_tells : (most : ℕ) → kind_at t ≡ 7 → Stand t 1 (λ s. and_then s (list_of most (type_id_of own) s) (λ ps s. map_parse (λ r. MirType.Function ps r) (type_id_of own s))) (λ y e. Tells (some y) t)
  unfolding scalar_kind part_type part_count counts pointee Part
  function_tells most d =
      then (list {Q = Part} (λ q. part_read) most 1) (λ ps u.
      made (type_id_of own) (λ r. MirType.Function ps r) (λ r e. record { scalar = rw d; part = λ k. rw d; parts = λ n. rw d; points = rw d }))

-- any type
pub type_tells : (most own : ℕ) (t : List ℕ) {ty : MirType} {n : ℕ} → type_of most own t ≡ ok ty n → Tells (some ty) t
unfolding type_of scalar_kind part_type part_count counts pointee
type_tells most own [] e = absurd (no_ok e)
type_tells most own (zero ∷ t) {ty} e = let f = (tagged_inv (type_kinds most own) (0 ∷ t) e).1 in let p : ty ≡ MirType.Felt = cc in rw p record { scalar = refl; part = λ k. refl; parts = λ n. refl; points = refl }
type_tells most own (suc zero ∷ t) {ty} e = let f = (tagged_inv (type_kinds most own) (1 ∷ t) e).1 in let p : ty ≡ MirType.Bool = cc in rw p record { scalar = refl; part = λ k. refl; parts = λ n. refl; points = refl }
type_tells most own (suc (suc zero) ∷ t) {ty} e = let f = (tagged_inv (type_kinds most own) (2 ∷ t) e).1 in let p : ty ≡ MirType.U32 = cc in rw p record { scalar = refl; part = λ k. refl; parts = λ n. refl; points = refl }
type_tells most own (suc (suc (suc zero)) ∷ t) {ty} e =
    elim (later_inv 1 (map_parse MirType.Tuple (list_of most (type_id_of own) t)) (tagged_inv (type_kinds most own) (3 ∷ t) e).1) [ behind k p q ↦ (tuple_tells own (3 ∷ t) most refl).each ty k p ]
type_tells most own (suc (suc (suc (suc zero))) ∷ t) {ty} e =
    elim (later_inv 1 (struct_of most own t) (tagged_inv (type_kinds most own) (4 ∷ t) e).1) [ behind k p q ↦ (struct_tells own (4 ∷ t) most refl).each ty k p ]
type_tells most own (suc (suc (suc (suc (suc zero)))) ∷ t) {ty} e =
    elim (later_inv 1 (and_then t (type_id_of own t) (λ p s. map_parse (λ size. MirType.FixedArray p size) (u32_of s))) (tagged_inv (type_kinds most own) (5 ∷ t) e).1) [ behind k p q ↦ (array_tells own (5 ∷ t) refl).each ty k p ]
type_tells most own (suc (suc (suc (suc (suc (suc zero))))) ∷ t) {ty} e =
    elim (later_inv 1 (map_parse MirType.Pointer (type_id_of own t)) (tagged_inv (type_kinds most own) (6 ∷ t) e).1) [ behind k p q ↦ (pointer_tells own (6 ∷ t) refl).each ty k p ]
type_tells most own (suc (suc (suc (suc (suc (suc (suc zero)))))) ∷ t) {ty} e =
    elim (later_inv 1 (and_then t (list_of most (type_id_of own) t) (λ ps s. map_parse (λ r. MirType.Function ps r) (type_id_of own s))) (tagged_inv (type_kinds most own) (7 ∷ t) e).1) [ behind k p q ↦ (function_tells own (7 ∷ t) most refl).each ty k p ]
type_tells most own (suc (suc (suc (suc (suc (suc (suc (suc zero))))))) ∷ t) {ty} e = let f = (tagged_inv (type_kinds most own) (8 ∷ t) e).1 in let p : ty ≡ MirType.Unit = cc in rw p record { scalar = refl; part = λ k. refl; parts = λ n. refl; points = refl }
type_tells most own (suc (suc (suc (suc (suc (suc (suc (suc (suc zero)))))))) ∷ t) {ty} e = let f = (tagged_inv (type_kinds most own) (9 ∷ t) e).1 in let p : ty ≡ MirType.Error = cc in rw p record { scalar = refl; part = λ k. refl; parts = λ n. refl; points = refl }
type_tells most own (suc (suc (suc (suc (suc (suc (suc (suc (suc (suc zero))))))))) ∷ t) {ty} e = let f = (tagged_inv (type_kinds most own) (10 ∷ t) e).1 in let p : ty ≡ MirType.Unknown = cc in rw p record { scalar = refl; part = λ k. refl; parts = λ n. refl; points = refl }
type_tells most own (suc (suc (suc (suc (suc (suc (suc (suc (suc (suc (suc a)))))))))) ∷ t) e =
    absurd (no_ok (tagged_inv (type_kinds most own) (suc (suc (suc (suc (suc (suc (suc (suc (suc (suc (suc a)))))))))) ∷ t) e).1)

-- no row says nothing
pub none_tells : Tells none []
unfolding scalar_kind part_type part_count counts pointee
none_tells = record { scalar = refl; part = λ k. refl; parts = λ n. refl; points = refl }

-- the row of a type tells all this of it
pub row_tells : (code : Code) (number : Answered TypeId) {row : List ℕ} → row ≡ row_in code (as_option number) → Typed code number (λ τ o. Tells (row_of τ o) row)
row_tells code number e τ o a l h = rw h at (row_holds Tells code (as_option number) τ none_tells (λ own t ty n. type_tells code.bounds.list own t) e a l)
