-- Lists, wherever they stand: what is read there, and the place behind.
use Prim.Native.Nat.{ℕ, zero, suc, ◌+◌, ◌*◌, ◌<◌}
use mathlib.Core.Path.{◌≡◌, refl, ap, ◌∙◌, sym}
use mathlib.Core.List.{List, [], ◌∷◌}
use mathlib.Core.Bool.{Bool}
use native.Mathlib.Nat.{add-zero}
use native.Mathlib.Omega.{arith}
use borrow.Author.Tests.{eqb-true}
use lib.ListN.{length, get_or, drop}
use lib.Dec.{ltb, eqb}
use Rattle.bytes_wire.specs.Parse.{checked}
use Rattle.bytes_wire.specs.Value.{value_of}
use Rattle.bytes_wire.specs.declared.Cause.{Cause}
use Rattle.bytes_wire.proofs.Inv.{checked_inv}
use Rattle.bytes_field.specs.Decode.{mark, count_of, list_of, defined_seq, defineds_of, source_of, field_init_of, returns_of, type_id_of}
use Rattle.bytes_field.specs.declared.Bounds.{Bounds}
use Rattle.bytes_operands.specs.Fields.{value_end, after, value_step}
use Rattle.bytes_operands.proofs.Loops.{plain_step, plain_values}
use Rattle.bytes_operands.proofs.Places as P
use Rattle.bytes_operands.proofs.Places.{then, last, alone, because, apart, count, list, sequence, fixed, takes_map, takes_checked, takes_number}
use Rattle.bytes_operands.proofs.EachKind.{At, at}
use Rattle.rewrite_parts.specs.Rows.{ValueAt, stands, Inits}
use Rattle.rewrite_parts.proofs.Builds.{OneInit, inits_behind}
use Rattle.shelf_field.specs.Fields.{Lined, over, ◌&◌, TypeAt}
use Rattle.shelf_field.proofs.Lines.{lined}
use Rattle.shelf_field.proofs.Standing.{dest_field, type_field, name_field, value_field}
use Rattle.shelf_list.specs.Lists.{SourceAt, ValuesAt, SourcesAt, TypesIn, IdsAt, two}

-- thing k of two bytes
pub lined_at : {A : Type 0} {Q : ℕ → A → Type 0} (d : A) (xs : List A) (p : ℕ) → Lined Q (λ q. q + 2) p xs → (k : ℕ) → k < length xs → Q (p + 2 * k) (get_or xs k d)
lined_at d [] p l k h = absurd (omega (arith, h))
lined_at {Q} d (x ∷ xs) p (q & l) zero h = let z : p ≡ p + 2 * 0 = omega arith in rw z at q
lined_at {Q} d (x ∷ xs) p (q & l) (suc k) h =
    let z : p + 2 + 2 * k ≡ p + 2 * suc k = omega arith in
    rw z at (lined_at {Q = Q} d xs (p + 2) l k (omega (arith, h)))

module _ (b : Bounds) (t : List ℕ) where
  pub values_field : {p : ℕ} → P.Field t p (list_of b.list (value_of b.next)) (λ xs. ValuesAt b.next t (p + 1) xs × (length xs ≡ get_or t p 0)) (after (value_step t 0 0) (get_or t p 0) (p + 1))
  values_field {p} =
      because
      (list {Q = ValueAt b.next t} {end = value_end t} (λ q. value_field b t) b.list p)
      (λ xs e q. (
        (lined (λ p x r. r) (plain_step t) q.0.0, q.0.1),
        q.1 ∙ sym (plain_values t (get_or t p 0) (p + 1)),
      ))

  pub sources_field : {p : ℕ} → P.Field t p (list_of b.list (source_of b)) (λ xs. SourcesAt b.next t (p + 1) xs × (length xs ≡ get_or t p 0)) (after (value_step t 2 0) (get_or t p 0) (p + 1))
  sources_field {p} =
      because
      (list {Q = SourceAt b.next t} {end = value_step t 2 0} (λ q. then (fixed (takes_map _ (takes_checked Cause.OutOfRange (λ x. ltb x b.blocks) (takes_number 2)))) (λ k u. last _ (value_field b t) (λ x r. (record { value = r }, sym (add-zero _))))) b.list p)
      (λ xs e q. ((lined (λ p x r. r) (λ q. refl) q.0.0, q.0.1), q.1))

  pub types_field : {p : ℕ} → P.Field t p (list_of b.list (type_id_of b.types)) (λ xs. TypesIn b.types t (p + 1) xs × (length xs ≡ get_or t p 0)) (p + 1 + 2 * get_or t p 0)
  types_field {p} =
      because
      (list {Q = TypeAt b.types t} {end = two} (λ q. type_field b t) b.list p)
      (λ xs e q. ((lined (λ p x r. r) (λ q. refl) q.0.0, q.0.1), q.1 ∙ apart 2 (get_or t p 0) (p + 1)))

  -- a Call's return types, as many as its dests
  counted : (many p : ℕ) → P.Field t p (λ s. checked Cause.CallCounts (λ n. eqb n many) (count_of b.list s)) (λ k. k ≡ many) (p + 1)
  counted many p =
      record {
        each = λ k n e.
            let h = checked_inv Cause.CallCounts (λ n. eqb n many) (count_of b.list (drop p t)) e in
            (eqb-true k many h.1, ((count b.list p).each k n h.0).1);
      }

  pub returns_field : (seen : List Bool) {p : ℕ} (many : ℕ) → P.Field t p (returns_of b seen many) (λ xs. TypesIn b.types t (p + 1) xs × (length xs ≡ many)) (p + 1 + 2 * many)
  unfolding returns_of
  returns_field seen {p} many =
      then
      (counted many p)
      (λ k q. because (sequence {Q = TypeAt b.types t} {end = two} (λ q. type_field b t) k (p + 1)) (λ xs e r. ((lined (λ p x r. r) (λ q. refl) r.0.0, r.0.1 ∙ q), r.1 ∙ apart 2 k (p + 1) ∙ ap (λ m. p + 1 + 2 * m) q)))

  news : (seen : List Bool) (k p : ℕ) → P.Field t p (defined_seq b.next seen k) (λ ds. IdsAt b.next t p ds × (length ds ≡ k)) (p + 2 * k)
  unfolding defined_seq
  news seen zero p = alone ((over, refl), omega arith)
  news seen (suc k) p = then (dest_field b t seen) (λ d u. last _ (news (mark seen d) k (p + 2)) (λ ds v. ((u & v.0, ap suc v.1), omega arith)))

  pub dests_field : (seen : List Bool) → P.Field t 0 (defineds_of b.list b.next seen) (λ ds. IdsAt b.next t 1 ds × (length ds ≡ get_or t 0 0)) (1 + 2 * get_or t 0 0)
  unfolding defineds_of
  dests_field seen = then (count b.list 0) (λ k q. because (news seen k 1) (λ ds e r. rw q at r))

  -- the inits of a struct build
  value_there : {p : ℕ} → P.Field t p (value_of b.next) (At (value_of b.next) t p) (value_end t p)
  value_there = because (value_field b t) (λ x e q. (elim q.0 [ stands n f ↦ at n f ], q.1))

  pub inits_here : {p : ℕ} → P.Field t p (list_of b.list (field_init_of b)) (λ fs. Inits b.next t (p + 1) fs × (length fs ≡ get_or t p 0)) (after (value_step t 2 0) (get_or t p 0) (p + 1))
  inits_here {p} =
      because
      (list {Q = OneInit b.next t} {end = value_step t 2 0} (λ q. then (name_field b t) (λ k u. last _ value_there (λ x r. (record { named = sym u; value = r }, sym (add-zero _))))) b.list p)
      (λ fs e q.
      let z : Inits b.next t (0 + (p + 1)) fs = inits_behind b.next t 0 (p + 1) fs q.0.0 in
      let z' : 0 + (p + 1) ≡ p + 1 = omega arith in
      ((rw z' at z, q.0.1), q.1))
