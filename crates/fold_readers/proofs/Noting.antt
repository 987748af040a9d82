-- The reads of a slot, noted one after another.
use Prim.Native.Nat.{ℕ, ◌+◌, ◌≤◌, ◌<◌}
use mathlib.Core.Path.{◌≡◌, ap, ◌∙◌, sym}
use mathlib.Core.List.{List, ◌∷◌}
use native.Mathlib.Numerals.{add-one}
use native.Mathlib.Omega.{arith}
use lib.ListN.{length, get_or, drop}
use lib.Seq.{drop-cons, drop-length}
use Rattle.mir.specs.declared.ValueId.{ValueId}
use Rattle.bytes_index.specs.Table.{read_count, read_in, ReadsIn}
use Rattle.fold_readers.specs.Readers.{note_reader, read_via}

abbrev no_value : ValueId
no_value = record { 0 = 0 }

module _ (own : ℕ) (facts : List ℕ) (slot n : ℕ) where
  -- k reads of the slot are behind
  pub record Via (r₀ r : List ℕ) (k : ℕ) : Type 0 where
    pub under : k ≤ n
    pub count : n ≡ read_count facts slot
    pub left : (vs : List ValueId) → ReadsIn facts slot vs → read_via own r₀ vs ≡ read_via own r (drop k vs)

  pub via_again : (r₀ r r' : List ℕ) (k x : ℕ) → Via r₀ r k → k < n → x ≡ read_in facts slot k → r' ≡ note_reader own r x → Via r₀ r' (k + 1)
  unfolding read_via
  via_again r₀ r r' k x u h ex f =
      record {
        under = omega arith;
        count = u.count;
        left = λ vs a.
            let p : k < length vs = omega (arith, u.count, a.many) in
            let d : drop k vs ≡ get_or vs k no_value ∷ drop (k + 1) vs = rw (add-one k) (drop-cons vs k no_value p) in
            let z : note_reader own r (get_or vs k no_value).0 ≡ r' = ap (λ y. note_reader own r y) (sym (ex ∙ a.each k p)) ∙ sym f in
            u.left vs a ∙ ap (λ y. read_via own r y) d ∙ ap (λ y. read_via own y (drop (k + 1) vs)) z;
      }

  pub via_done : (r₀ r : List ℕ) (k : ℕ) → Via r₀ r k → n ≤ k → (vs : List ValueId) → ReadsIn facts slot vs → r ≡ read_via own r₀ vs
  unfolding read_via
  via_done r₀ r k u h vs a =
      let z : k ≡ length vs = omega (arith, u.under, u.count, a.many) in
      sym (u.left vs a ∙ ap (λ y. read_via own r (drop y vs)) z ∙ ap (λ y. read_via own r y) (drop-length vs))
