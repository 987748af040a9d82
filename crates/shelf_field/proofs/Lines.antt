-- Things one behind another, each of which is tested.
use Prim.Native.Nat.{ℕ, suc}
use mathlib.Core.Path.{◌≡◌, refl, ap, ◌∙◌}
use mathlib.Core.List.{List, [], ◌∷◌}
use mathlib.Core.Bool.{Bool, true, ◌&&◌}
use Rattle.bytes_operands.proofs.Places as P
use Rattle.shelf.specs.Lists.{every}
use Rattle.shelf_field.specs.Fields.{Lined, over, ◌&◌}

-- each passes its test, the first as number i
abbrev pub all_of : {A : Type 0} → (ℕ → A → Bool) → ℕ → List A → Bool
all_of test i [] = true
all_of test i (x ∷ xs) = test i x && all_of test (suc i) xs

-- two tests
pub and_both : {a c d e : Bool} → a ≡ d → c ≡ e → (a && c) ≡ (d && e)
and_both {c} {d} p q = ap (λ z. z && c) p ∙ ap (λ z. d && z) q

-- so things stand that lookups have found
pub lined : {A : Type 0} {Q R : ℕ → A → Type 0} {end to : ℕ → ℕ} {at : ℕ} {xs : List A} → ((p : ℕ) (x : A) → Q p x → R p x) → ((p : ℕ) → end p ≡ to p) → P.Listed Q end at xs → Lined R to at xs
lined f g P.empty = over
lined {R} {to} {at} f g (P.◌&◌ {xs} q l) = f at _ q & rw (g at) at (lined {R = R} {to = to} f g l)

-- each element passes
pub every_all : {A : Type 0} (p : A → Bool) (i : ℕ) (xs : List A) → every p xs ≡ all_of (λ k x. p x) i xs
every_all p i [] = refl
every_all p i (x ∷ xs) = ap (λ z. p x && z) (every_all p (suc i) xs)
