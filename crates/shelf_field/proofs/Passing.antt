-- Tests of things that stand one behind another: what is asked, one after another, and what that is of the things.
use Prim.Native.Nat.{ℕ, suc, ◌+◌, ◌-◌, ◌≤◌, ◌<◌}
use mathlib.Core.Path.{◌≡◌, refl, ap, ◌∙◌, sym}
use mathlib.Core.List.{List, [], ◌∷◌}
use mathlib.Core.Bool.{Bool, true, false, ◌&&◌}
use native.Mathlib.Nat.{add-zero}
use native.Mathlib.Omega.{arith}
use lib.ListN.{length}
use Rattle.shelf_field.specs.Fields.{Lined, ◌&◌}
use Rattle.shelf_field.specs.Passes.{Passes, all_passed, one_fails, one_passes}
use Rattle.shelf.specs.Lists.{every}
use Rattle.shelf_field.proofs.Lines.{all_of, every_all}

module _ {test : ℕ → ℕ → Bool → Type 0} {behind : ℕ → ℕ → Type 0} where
  -- thing i of n does not pass
  pub fails_now : (n i at : ℕ) → i < n → test i at false → Passes test behind (n - i) i at false
  fails_now n i at h t = let z : n - i ≡ suc (n - (i + 1)) = omega arith in rw z (one_fails t)

  -- it passes, and so it is of the others
  pub passes_now : (n i at : ℕ) {to : ℕ} {r : Bool} → i < n → test i at true → behind at to → Passes test behind (n - (i + 1)) (i + 1) to r → Passes test behind (n - i) i at r
  passes_now n i at h t b p = let z : n - i ≡ suc (n - (i + 1)) = omega arith in rw z (one_passes t b p)

  -- there is none left
  pub passes_all : (n i at : ℕ) → n ≤ i → Passes test behind (n - i) i at true
  passes_all n i at h = let z : n - i ≡ 0 = omega arith in rw z all_passed

  -- what is answered of things that stand so
  module _ {A : Type 0} {Q : ℕ → A → Type 0} {end : ℕ → ℕ} {ask : ℕ → A → Bool} (all : ℕ) where
    passing_from : {n i at : ℕ} {r : Bool} → Passes test behind n i at r → ((p q : ℕ) → behind p q → q ≡ end p) → ((i p : ℕ) (x : A) (r : Bool) → i < all → Q p x → test i p r → r ≡ ask i x)
        → (xs : List A) → Lined Q end at xs → length xs ≡ n → n + i ≡ all → r ≡ all_of ask i xs
    passing_from all_passed f g [] l h k = refl
    passing_from all_passed f g (x ∷ xs) l h k = absurd (omega (arith, h))
    passing_from (one_fails t) f g [] l h k = absurd (omega (arith, h))
    passing_from {i} (one_fails t) f g (x ∷ xs) (q & l) h k = ap (λ z. z && all_of ask (suc i) xs) (g i _ x false (omega (arith, k)) q t)
    passing_from (one_passes t b p) f g [] l h k = absurd (omega (arith, h))
    passing_from {i} (one_passes {n} {to} t b p) f g (x ∷ xs) (q & l) h k =
        let w : Lined Q end to xs = rw (f _ to b) l in
        let z : i + 1 ≡ suc i = omega arith in
        let m : length xs ≡ n = omega (arith, h) in
        let j : n + (i + 1) ≡ all = omega (arith, k) in
        passing_from p f g xs w m j ∙ ap (λ j. all_of ask j xs) z ∙ ap (λ z. z && all_of ask (suc i) xs) (g i _ x true (omega (arith, k)) q t)

    pub passing : {at : ℕ} {r : Bool} → Passes test behind all 0 at r → ((p q : ℕ) → behind p q → q ≡ end p) → ((i p : ℕ) (x : A) (r : Bool) → i < all → Q p x → test i p r → r ≡ ask i x)
        → (xs : List A) → Lined Q end at xs → length xs ≡ all → r ≡ all_of ask 0 xs
    passing p f g xs l h = passing_from p f g xs l h (add-zero all)

  -- where each is asked the same
  module _ {A : Type 0} {Q : ℕ → A → Type 0} {end : ℕ → ℕ} (all : ℕ) where
    pub passing_every : {at : ℕ} {r : Bool} (ask : A → Bool) → Passes test behind all 0 at r → ((p q : ℕ) → behind p q → q ≡ end p) → ((i p : ℕ) (x : A) (r : Bool) → Q p x → test i p r → r ≡ ask x)
        → (xs : List A) → Lined Q end at xs → length xs ≡ all → r ≡ every ask xs
    passing_every ask p f g xs l h = passing {Q = Q} {ask = λ k x. ask x} all p f (λ i p x r a q t. g i p x r q t) xs l h ∙ sym (every_all ask 0 xs)
