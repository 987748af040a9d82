-- The rows of the copies of a value, and how many there are of marks and of copies.
use Prim.Native.Nat.{ℕ, zero, suc, ◌+◌, ◌≤◌, ◌<◌}
use mathlib.Core.Path.{◌≡◌, refl, ap, ◌∙◌, sym}
use mathlib.Core.List.{List, [], ◌∷◌}
use mathlib.Core.Bool.{Bool, true, false, cond}
use mathlib.Core.Logic.{◌⊎◌, ⊎_elim}
use native.Mathlib.Nat.{eq-or-lt_of_le}
use native.Mathlib.Omega.{arith}
use borrow.Author.Tests.{eqb-true, eqb-false}
use lib.ListN.{length, get_or, set}
use lib.Seq.{get_or-set_same, get_or-set_other}
use lib.Dec.{eqb}
use Rattle.fold.specs.Family.{Marks}
use Rattle.fold_family.specs.Copies.{Copy, no_copy, last}
use Rattle.fold_family.specs.Turns.{one, size, copied_from}

abbrev pub copy_at : List Copy → ℕ → Copy
copy_at cs j = get_or cs j no_copy

-- the newest of the first, or an older one
pub newest : (k n : ℕ) → k < suc n → (k ≡ n) ⊎ (k < n)
newest k n h = eq-or-lt_of_le (let y : k ≤ n = omega arith in y)

-- the copies of v among the first e
unfoldable pub many : List Copy → ℕ → ℕ → ℕ
many cs v zero = 0
many cs v (suc j) = one (eqb (copy_at cs j).source v) + many cs v j

-- nothing of v stands behind its last row
pub many_last : (cs : List Copy) (v e : ℕ) → many cs v (last cs v e) ≡ many cs v e
unfolding many last
many_last cs v zero = refl
many_last cs v (suc j) = go (eqb (copy_at cs j).source v) refl (many_last cs v j)
  where
    go : (b : Bool) → eqb (copy_at cs j).source v ≡ b → many cs v (last cs v j) ≡ many cs v j → many cs v (cond b (suc j) (last cs v j)) ≡ one b + many cs v j
    go true e r = rw e
    go false e r = omega arith

pub last_le : (cs : List Copy) (v e : ℕ) → last cs v e ≤ e
unfolding last
last_le cs v zero = omega arith
last_le cs v (suc j) = go (eqb (copy_at cs j).source v) (last_le cs v j)
  where
    go : (b : Bool) → last cs v j ≤ j → cond b (suc j) (last cs v j) ≤ suc j
    go true r = omega arith
    go false r = omega arith

pub none_behind : (cs : List Copy) (v e j : ℕ) → last cs v e ≤ j → j < e → (copy_at cs j).source ≡ v → ⊥
unfolding last
none_behind cs v zero j h l q = omega arith
none_behind cs v (suc i) j h l q = go (eqb (copy_at cs i).source v) refl h (none_behind cs v i)
  where
    go : (b : Bool) → eqb (copy_at cs i).source v ≡ b → cond b (suc i) (last cs v i) ≤ j
        → ((j : ℕ) → last cs v i ≤ j → j < i → (copy_at cs j).source ≡ v → ⊥) → ⊥
    go true e h r = omega arith
    go false e h r =
        ⊎_elim (λ z. eqb-false _ _ e (ap (λ k. (copy_at cs k).source) (sym z) ∙ q)) (λ z. r j h z q) (newest j i l)

-- a last row is of its value
pub last_own : (cs : List Copy) (v e j : ℕ) → last cs v e ≡ suc j → (copy_at cs j).source ≡ v
unfolding last
last_own cs v zero j h = absurd (omega arith)
last_own cs v (suc i) j h = go (eqb (copy_at cs i).source v) refl h (last_own cs v i j)
  where
    go : (b : Bool) → eqb (copy_at cs i).source v ≡ b → cond b (suc i) (last cs v i) ≡ suc j → (last cs v i ≡ suc j → (copy_at cs j).source ≡ v)
        → (copy_at cs j).source ≡ v
    go true e h r = let z : i ≡ j = omega arith in ap (λ k. (copy_at cs k).source) (sym z) ∙ eqb-true _ _ e
    go false e h r = r h

-- one more value
pub size_set : (m : Marks) (d : ℕ) → d < length m → get_or m d false ≡ false → size (set m d true) ≡ suc (size m)
size_set [] d h f = absurd (omega arith)
size_set (b ∷ m) zero h f = rw f (omega arith)
size_set (b ∷ m) (suc d) h f = omega (arith, size_set m d (omega arith) f)

-- its mark, wherever it is looked up
marked_set : (t : Marks) (x v : ℕ) → x < length t → get_or t x false ≡ false → one (get_or (set t x true) v false) ≡ one (eqb v x) + one (get_or t v false)
marked_set t x v h f = go (eqb v x) refl
  where
    go : (b : Bool) → eqb v x ≡ b → one (get_or (set t x true) v false) ≡ one b + one (get_or t v false)
    go true e =
        let z : v ≡ x = eqb-true v x e in
        ap (λ k. one (get_or (set t x true) k false)) z
        ∙ ap one (get_or-set_same t x true false h)
        ∙ sym (ap (λ k. 1 + one (get_or t k false)) z ∙ ap (λ b. 1 + one b) f)
    go false e = omega (arith, ap one (get_or-set_other t x v true false (eqb-false v x e)))

-- and its copies
pub copied_set : (t : Marks) (cs : List Copy) (x e : ℕ) → x < length t → get_or t x false ≡ false
    → copied_from (set t x true) cs e ≡ copied_from t cs e + many cs x e
unfolding copied_from many
copied_set t cs x zero h f = refl
copied_set t cs x (suc j) h f = omega (arith, marked_set t x (copy_at cs j).source h f, copied_set t cs x j h f)

-- where nothing is marked
pub no_copies : (t : Marks) (cs : List Copy) → ((x : ℕ) → get_or t x false ≡ false) → (e : ℕ) → copied_from t cs e ≡ 0
unfolding copied_from
no_copies t cs none zero = refl
no_copies t cs none (suc j) = omega (arith, ap one (none (copy_at cs j).source), no_copies t cs none j)

-- where the same values are
pub same_copies : (t m : Marks) (cs : List Copy) → ((x : ℕ) → get_or t x false ≡ get_or m x false) → (e : ℕ) → copied_from t cs e ≡ copied_from m cs e
unfolding copied_from
same_copies t m cs h zero = refl
same_copies t m cs h (suc j) = omega (arith, ap one (h (copy_at cs j).source), same_copies t m cs h j)
