-- A family that is marked beside the marks that stand already.
use Prim.Native.Nat.{ℕ, zero, suc, ◌≤◌, ◌<◌}
use mathlib.Core.Path.{◌≡◌, refl, ap, ◌∙◌, sym}
use mathlib.Core.List.{List, [], ◌∷◌}
use mathlib.Core.Bool.{Bool, true, false, ◌||◌, true≢false}
use native.Mathlib.Omega.{arith}
use lib.ListN.{length, get_or, take, replicate}
use lib.Seq.{ext_get_or}
use Rattle.fold.specs.Family.{Marks, union}
use Rattle.fold_family.specs.Search.{Listed, listed_at, Members, Flagged, kept, listed, Storing}
use Rattle.fold_family.proofs.Listed.{first_listed}

-- the union of as many marks
union_length : (m c : Marks) → length m ≡ length c → length (union m c) ≡ length c
unfolding union
union_length [] c h = refl
union_length (a ∷ m) [] h = absurd (omega arith)
union_length (a ∷ m) (b ∷ c) h = ap suc (union_length m c (omega arith))

union_at : (m c : Marks) (j : ℕ) → length m ≡ length c → get_or (union m c) j false ≡ (get_or m j false || get_or c j false)
unfolding union
union_at [] c j h = refl
union_at (a ∷ m) [] j h = absurd (omega arith)
union_at (a ∷ m) (b ∷ c) zero h = refl
union_at (a ∷ m) (b ∷ c) (suc j) h = union_at m c j (omega arith)

-- no marks add none
pub union_clear : (n : ℕ) (c : Marks) → length c ≡ n → union (replicate n false) c ≡ c
unfolding union
union_clear zero c h = refl
union_clear (suc n) [] h = absurd (omega arith)
union_clear (suc n) (b ∷ c) h = ap (λ x. b ∷ x) (union_clear n c (omega arith))

-- marking all members makes the union
pub unites : (members : List ℕ) (n : ℕ) (c₀ c m : Marks) → Storing members n true c₀ c → Members members n m → length m ≡ length c₀ → c ≡ union m c₀
unites members n c₀ c m u a l =
    ext_get_or false c (union m c₀) (u.long ∙ sym (union_length m c₀ l))
    (λ x q. go x (omega (arith, q, u.long)) (get_or m x false) refl (u.each x) ∙ sym (union_at m c₀ x l))
  where
    go : (x : ℕ) → x < length c₀ → (p : Bool) → get_or m x false ≡ p → Flagged members n true c₀ c x → get_or c x false ≡ (get_or m x false || get_or c₀ x false)
    go x q true e f = rw e (put (a.only x e))
      where
        put : Listed members n x → get_or c x false ≡ true
        put (listed_at i j z) = ap (λ y. get_or c y false) (sym z) ∙ u.stored i j (omega (arith, z, q))
    go x q false e (kept z) = rw e z
    go x q false e (listed w z) = absurd (true≢false (none w))
      where
        none : Listed members n x → true ≡ false
        none (listed_at i j w) = sym (a.marked i j) ∙ ap (λ y. get_or m y false) w ∙ e

-- so does marking the first n of a list, where they are the members
pub unites_first : (members : List ℕ) (n : ℕ) (c₀ c m : Marks) (front : List ℕ) → front ≡ take n members → Storing front (length front) true c₀ c
    → n ≤ length members → Members members n m → length m ≡ length c₀ → c ≡ union m c₀
unites_first members n c₀ c m front el u h a l = unites front (length front) c₀ c m u (rw el (first_listed members n m a h)) l
