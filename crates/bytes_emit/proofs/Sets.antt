-- Stores one after another: a store past the end does nothing, so that no law here asks for room.
use Prim.Native.Nat.{ℕ, zero, suc, ◌+◌, ◌≤◌, ◌<◌}
use mathlib.Core.Path.{◌≡◌, refl, ap, ◌∙◌, sym}
use mathlib.Core.List.{List, [], ◌∷◌, ◌++◌}
use native.Mathlib.Nat.{add-zero}
use native.Mathlib.Numerals.{add-two}
use native.Mathlib.Omega.{arith}
use lib.ListN.{length, length-set, take, set}
use lib.Seq.{sets, set_comm}

-- two runs, the second behind the first, are one
pub sets_append : {A : Type 0} (l : List A) (i : ℕ) (a b : List A) → sets l i (a ++ b) ≡ sets (sets l i a) (i + length a) b
sets_append l i [] b = ap (λ k. sets l k b) (sym (add-zero i))
sets_append l i (x ∷ a) b =
    let e : suc i + length a ≡ i + suc (length a) = omega arith in
    sets_append (set l i x) (suc i) a b ∙ ap (λ k. sets (sets (set l i x) (suc i) a) k b) e

-- a store before a run may come first
set_sets : {A : Type 0} (l : List A) (j i : ℕ) (x : A) (a : List A) → j < i → set (sets l i a) j x ≡ sets (set l j x) i a
set_sets l j i x [] h = refl
set_sets l j i x (y ∷ a) h =
    let ne : (i ≡ j → ⊥) = λ e. omega arith in
    set_sets (set l i y) j (suc i) x a (omega arith) ∙ ap (λ m. sets m (suc i) a) (set_comm l i j y x ne)

-- what stands in front may be stored last
pub sets_front : {A : Type 0} (l : List A) (i : ℕ) (a b : List A) → sets (sets l (i + length a) b) i a ≡ sets l i (a ++ b)
sets_front l i [] b = ap (λ k. sets l k b) (add-zero i)
sets_front l i (x ∷ a) b =
    let e : i + suc (length a) ≡ suc i + length a = omega arith in
    rw (e, set_sets l i (suc i + length a) x b (omega arith)) (sets_front (set l i x) (suc i) a b)

-- two bytes, a run of two, and two runs behind them, as an Assign is written
pub sets_assign : (l : List ℕ) (i a b : ℕ) (ds xs ts : List ℕ) → length ds ≡ 2 → sets (sets (sets (sets l i (a ∷ b ∷ [])) (i + 2) ds) (i + 4) xs) (i + 4 + length xs) ts ≡ sets l i (a ∷ b ∷ (ds ++ (xs ++ ts)))
sets_assign l i a b ds xs ts h =
    let e : i + 4 ≡ i + 2 + length ds = omega arith in
    sym (rw (sets_append, ← add-two i, ← e, sets_append))

-- past the end nothing is stored
set_past : {A : Type 0} (l : List A) (i : ℕ) (x : A) → length l ≤ i → set l i x ≡ l
set_past [] i x h = refl
set_past (y ∷ l) zero x h = absurd (omega arith)
set_past (y ∷ l) (suc i) x h = ap (λ t. y ∷ t) (set_past l i x (omega arith))

pub sets_past : {A : Type 0} (l : List A) (i : ℕ) (a : List A) → length l ≤ i → sets l i a ≡ l
sets_past l i [] h = refl
sets_past l i (x ∷ a) h = rw (set_past l i x h) (sets_past l (suc i) a (omega arith))

-- so what has no room can be cut off
pub sets_cut : {A : Type 0} (l : List A) (i n : ℕ) (a : List A) → length l ≤ i + n → sets l i (take n a) ≡ sets l i a
sets_cut l i zero a h = sym (sets_past l i a (omega arith))
sets_cut l i (suc n) [] h = refl
sets_cut l i (suc n) (x ∷ a) h = sets_cut (set l i x) (suc i) n a (omega (arith, length-set l i x))
