-- A table of decoders, of which a number chooses one.
use Prim.Native.Nat.{ℕ, zero, suc, ◌+◌}
use mathlib.Core.Path.{◌≡◌}
use mathlib.Core.List.{List, [], ◌∷◌, map}
use native.Mathlib.Nat.{add-zero, zero-add}
use native.Mathlib.Omega.{arith}
use lib.ListN.{get_or}
use Rattle.bytes_wire.specs.Parse.{Parse, ok, bad, later, tagged}
use Rattle.bytes_wire.specs.WellFormed.{Bytes}
use Rattle.bytes_wire.specs.declared.Cause.{Cause}
use Rattle.bytes_wire.proofs.Inv.{no_ok, Behind, behind, later_inv, tagged_inv}
use Rattle.bytes_wire.proofs.Canon.{bytes_drop, canon_tag}
use Rattle.bytes_laws.proofs.Exact.{Read, Exact, ends, After}

-- each decoder of the table reads what its number says; the first has the number n
infixr 67 ◌&◌
pub data Rows {A : Type 0} (k : ℕ → List ℕ → List ℕ) (enc : A → List ℕ) (G : ℕ → A → Type 0) (most : ℕ) : ℕ → List (List ℕ → Parse A) → Type 0 where
  none : {n : ℕ} → Rows k enc G most n []
  ◌&◌ : {n : ℕ} {f : List ℕ → Parse A} {fs : List (List ℕ → Parse A)} → After (k n) f enc (G n) most → Rows k enc G most (suc n) fs → Rows k enc G most n (f ∷ fs)

-- the one that j chooses
at : {A : Type 0} {k : ℕ → List ℕ → List ℕ} {enc : A → List ℕ} {G : ℕ → A → Type 0} {most n : ℕ} {fs : List (List ℕ → Parse A)} → Rows k enc G most n fs → (j : ℕ) → After (k (n + j)) (λ s. get_or (map (λ f. f s) fs) j (bad Cause.Undefined 0)) enc (G (n + j)) most
at none j = record { each = λ s a n h e. absurd (no_ok e) }
at {n} (x & r) zero = rw (add-zero n) x
at {n} (x & r) (suc j) = let e : n + suc j ≡ suc n + j = omega arith in rw e (at r j)

pub row : {A : Type 0} {k : ℕ → List ℕ → List ℕ} {enc : A → List ℕ} {G : ℕ → A → Type 0} {most : ℕ} {fs : List (List ℕ → Parse A)} → Rows k enc G most 0 fs → (j : ℕ) → After (k j) (λ s. get_or (map (λ f. f s) fs) j (bad Cause.Undefined 0)) enc (G j) most
row r j = rw zero-add at (at r j)

-- behind the kind byte
past : {A : Type 0} (fs : List (List ℕ → Parse A)) (t : List ℕ) (j : ℕ) {a : A} {n : ℕ} → get_or (map (λ f. later 1 (f t)) fs) j (bad Cause.Undefined 0) ≡ ok a n → Behind 1 (get_or (map (λ f. f t) fs) j (bad Cause.Undefined 0)) a n
past [] t j e = absurd (no_ok e)
past (f ∷ fs) t zero e = later_inv 1 (f t) e
past (f ∷ fs) t (suc j) e = past fs t j e

-- a kind byte, then the fields of its kind
pub tag : {A : Type 0} {enc : A → List ℕ} {G : A → Type 0} {most : ℕ} {fs : List (List ℕ → Parse A)} → Rows (λ n w. n ∷ w) enc (λ n. G) most 0 fs → Exact (tagged fs) enc G (1 + most)
tag {A} {enc} {G} {most} {fs} r = record { each = each }
  where
    each : (s : List ℕ) (a : A) (n : ℕ) → Bytes s → tagged fs s ≡ ok a n → Read enc G (1 + most) a s n
    each [] a n h e = absurd (no_ok e)
    each (j ∷ t) a n h e =
        elim (past fs t j (tagged_inv fs (j ∷ t) e).1) [
          | behind m p q ↦
              elim ((row r j).each t a m (bytes_drop (j ∷ t) 1 h) p) [
                | ends w u v g l ↦ record { canon = rw v (canon_tag j u q); good = g; small = omega arith }
              ]
        ]
