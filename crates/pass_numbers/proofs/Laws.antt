-- Laws of the settings, the ten numbers and the totals.
use Prim.Native.Nat.{ℕ, suc, ◌+◌, ◌≤◌, ◌<◌}
use Rattle.std.specs.Prelude.{min}
use mathlib.Core.Path.{◌≡◌, refl, ap, ◌∙◌, sym}
use mathlib.Core.List.{List, [], ◌∷◌, ◌++◌}
use mathlib.Core.Bool.{Bool, true, false}
use native.Mathlib.Omega.{arith}
use borrow.Author.Tests.{lt-ltb, le-ltb, ltb-true, ltb-false}
use lib.ListN.{length, set, take, drop, get_or}
use lib.Seq.{sets}
use lib.Dec.{ltb}
use Rattle.fold.specs.declared.Edition.{Edition}
use Rattle.fold.specs.declared.Settings.{Settings}
use Rattle.rewrite.specs.Outcome as O
use Rattle.rewrite.specs.Outcome.{outcome}
use Rattle.rewrite.specs.declared.Counts.{Counts}
use Rattle.rewrite.proofs.Outcomes.{too_large}
use Rattle.shelf.specs.Answer.{refused, with_reason, answer as given}
use Rattle.pass_numbers.specs.Choices.{flag_of, edition_of, settings_by}
use Rattle.pass_numbers.specs.declared.Totals.{Totals}
use Rattle.pass_numbers.specs.Totals.{numbers64, highest64, added, with_counts}

-- a refusal has no reason
pub given_refused : (σ : Settings) (room : ℕ) (s : List ℕ) (n o : ℕ) → outcome σ room s ≡ O.refused n o → given σ room s ≡ refused n o
unfolding given with_reason
given_refused σ room s n o e = rw e

-- which settings are refused with 12 does not matter
pub same_settings : (t u : Bool) (v : Edition) (most r room : ℕ) (s : List ℕ) → (most ≤ 16 → r ≡ most) → (16 < most → 16 < r) → given (record { tuples = t; structs = u; most = r; edition = v }) room s ≡ given (record { tuples = t; structs = u; most = most; edition = v }) room s
same_settings t u v most r room s f g = split (ltb 16 most) refl
  where
    large : (n : ℕ) → 16 < n → given (record { tuples = t; structs = u; most = n; edition = v }) room s ≡ refused 12 0
    large n h = given_refused (record { tuples = t; structs = u; most = n; edition = v }) room s 12 0 (too_large (record { tuples = t; structs = u; most = n; edition = v }) room s h)

    split : (x : Bool) → ltb 16 most ≡ x → given (record { tuples = t; structs = u; most = r; edition = v }) room s ≡ given (record { tuples = t; structs = u; most = most; edition = v }) room s
    split true e = large r (g (ltb-true 16 most e)) ∙ sym (large most (ltb-true 16 most e))
    split false e = ap (λ n. given (record { tuples = t; structs = u; most = n; edition = v }) room s) (f (ltb-false 16 most e))

-- so is it of settings that are given by place
pub by_place : (l : List ℕ) (t u most r v : ℕ) (e : Edition) → t ≡ get_or l 0 1 → u ≡ get_or l 1 1 → most ≡ get_or l 2 8 → v ≡ get_or l 3 1 → edition_of v ≡ e → (most ≤ 16 → r ≡ most) → (16 < most → 16 < r) → (room : ℕ) (s : List ℕ) → given (record { tuples = flag_of t; structs = flag_of u; most = r; edition = e }) room s ≡ given (settings_by l) room s
by_place l t u most r v e p q m w x f g room s =
    same_settings (flag_of t) (flag_of u) e most r room s f g
    ∙ rw (p, q, m, sym x, w)

-- numbers that are stored from the first place on, as far as there is room
sets_behind : (y : ℕ) (l xs : List ℕ) (i : ℕ) → sets (y ∷ l) (suc i) xs ≡ y ∷ sets l i xs
sets_behind y l [] i = refl
sets_behind y l (x ∷ xs) i = sets_behind y (set l i x) xs (suc i)

sets_nowhere : (xs : List ℕ) (i : ℕ) → sets [] i xs ≡ []
sets_nowhere [] i = refl
sets_nowhere (x ∷ xs) i = sets_nowhere xs (suc i)

pub stored_part : (l xs : List ℕ) (room : ℕ) → room ≡ min (length l) (length xs) → take room xs ++ drop room l ≡ sets l 0 xs
stored_part [] xs room e = let z : room ≡ 0 = omega (arith, e) in rw z (sym (sets_nowhere xs 0))
stored_part (y ∷ l) [] room e = let z : room ≡ 0 = omega (arith, e) in rw z refl
stored_part (y ∷ l) (x ∷ xs) room e =
    let z : room ≡ suc (min (length l) (length xs)) = omega (arith, e) in
    rw z (ap (λ t. x ∷ t) (stored_part l xs (min (length l) (length xs)) refl) ∙ sym (sets_behind x l xs 0))

pub added_all : (total n : ℕ) → total + n < numbers64 → added total n ≡ total + n
unfolding added
added_all total n h = rw (lt-ltb _ _ h)

pub added_most : (total n : ℕ) → numbers64 ≤ total + n → added total n ≡ highest64
unfolding added
added_most total n h = rw (le-ltb _ _ h)

-- so it is the library's sum
pub added_min : (total n : ℕ) → added total n ≡ min (total + n) 18446744073709551615
added_min total n = split (ltb (total + n) numbers64) refl
  where
    split : (x : Bool) → ltb (total + n) numbers64 ≡ x → added total n ≡ min (total + n) 18446744073709551615
    split true e = let h = ltb-true (total + n) numbers64 e in added_all total n h ∙ omega arith
    split false e = let h = ltb-false (total + n) numbers64 e in added_most total n h ∙ omega arith

-- totals that are numbers of 64 bits
pub record Fit (t : Totals) : Type 0 where
  pub builds : t.builds < numbers64
  pub extracts : t.extracts < numbers64
  pub inserts : t.inserts < numbers64
  pub assigns : t.assigns < numbers64
  pub materializations : t.materializations < numbers64

-- nothing added is nothing changed
added_none : (total : ℕ) → total < numbers64 → added total 0 ≡ total
added_none total h = added_all total 0 (omega (arith, h)) ∙ omega arith

abbrev none : Counts
none = record { builds = 0; extracts = 0; inserts = 0; assigns = 0; materializations = 0 }

pub with_none : (t : Totals) → Fit t → with_counts t none ≡ t
unfolding with_counts
with_none t f = rw (added_none _ f.builds, added_none _ f.extracts, added_none _ f.inserts, added_none _ f.assigns, added_none _ f.materializations)
