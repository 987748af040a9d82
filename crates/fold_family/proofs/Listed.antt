-- The members of a family, one after another, in place of all its marks.
use Prim.Native.Nat.{ℕ, zero, suc, ◌+◌, ◌≤◌, ◌<◌}
use mathlib.Core.Path.{◌≡◌, refl, ap, ◌∙◌, sym, subst}
use mathlib.Core.List.{List, [], ◌∷◌}
use mathlib.Core.Bool.{Bool, true, false, ◌&&◌, ◌||◌, or-true, true≢false}
use mathlib.Core.Logic.{⊎_elim}
use native.Mathlib.Nat.{zero-add}
use native.Mathlib.Omega.{arith}
use lib.ListN.{length, get_or, set, take, replicate, length-set, length-replicate}
use lib.Seq.{ext_get_or, get_or-set_same, get_or-set_other, set_out, take_all}
use lib.Dec.{eqb, ltb}
use borrow.Author.Tests.{ltb-true, ltb-false, eqb-true, eqb-false}
use Rattle.std.specs.List.{list_any, range_with_len}
use Rattle.std.proofs.lemmas.Grind.{get_or_default_zero}
use Rattle.std.proofs.lemmas.List.Folds.{list_any_at, Any-from_list_any}
use Rattle.std.proofs.lemmas.List.FromFn.{length-range_with_len, get_or-range_with_len}
use Rattle.std.proofs.lemmas.List.{length-take-le, get_or-take, get_or_past}
use Rattle.table.proofs.Elements.{clear_at}
use Rattle.fold.specs.Family.{Marks}
use Rattle.fold_family.specs.Copies.{meets}
use Rattle.fold_family.specs.Search.{Listed, listed_at, Members, Flagged, kept, listed, Storing, ClearsMembers, MemberIndexed}
use Rattle.fold_family.proofs.Dynamic.{dynamic_family}
use Rattle.fold_family.proofs.Finding.{size_le}
use Rattle.fold_family.proofs.Rows.{newest}

-- a value that has both marks
meets_at : (m d : Marks) (x : ℕ) → get_or m x false ≡ true → get_or d x false ≡ true → meets m d ≡ true
unfolding meets
meets_at [] d x h g = absurd (true≢false (sym h))
meets_at (a ∷ m) [] x h g = absurd (true≢false (sym g))
meets_at (a ∷ m) (b ∷ d) zero h g = rw (h, g) refl
meets_at (a ∷ m) (b ∷ d) (suc x) h g = rw (meets_at m d x h g) (or-true (a && b))

-- none has
meets_none : (m d : Marks) → ((x : ℕ) → get_or m x false ≡ true → get_or d x false ≡ false) → meets m d ≡ false
unfolding meets
meets_none [] d f = refl
meets_none (a ∷ m) [] f = refl
meets_none (a ∷ m) (b ∷ d) f = go a refl (meets_none m d (λ x. f (suc x)))
  where
    go : (c : Bool) → a ≡ c → meets m d ≡ false → ((c && b) || meets m d) ≡ false
    go true e r = rw (f 0 e) r
    go false e r = r

-- values that are read off places: each is marked, and where none of them passes the test, no marked value does
any_met : (f : ℕ → ℕ) (xs : List ℕ) (m d : Marks) → ((i : ℕ) → i < length xs → get_or m (f (get_or xs i 0)) false ≡ true)
    → ((x : ℕ) → get_or m x false ≡ true → list_any (λ k. get_or d (f k) false) xs ≡ false → get_or d x false ≡ false)
    → list_any (λ k. get_or d (f k) false) xs ≡ meets m d
any_met f xs m d marked only = go (list_any p xs) refl
  where
    p : ℕ → Bool
    p k = get_or d (f k) false

    go : (b : Bool) → list_any p xs ≡ b → list_any p xs ≡ meets m d
    go true e =
        let (i, k, h, z, g) = Any-from_list_any p xs e in
        let q : get_or xs i 0 ≡ k = sym (get_or_default_zero xs i k h) ∙ z in
        e ∙ sym (meets_at m d (f k) (subst (λ y. get_or m (f y) false ≡ true) q (marked i h)) g)
    go false e = e ∙ sym (meets_none m d (λ x y. only x y e))

-- the test of each member in turn
pub list_met : (members : List ℕ) (m d : Marks) → Members members (length members) m → list_any (λ v. get_or d v false) members ≡ meets m d
list_met members m d a = any_met (λ v. v) members m d a.marked (λ x h e. only x e (a.only x h) (p x) refl)
  where
    p : ℕ → Bool
    p v = get_or d v false

    only : (x : ℕ) → list_any p members ≡ false → Listed members (length members) x → (b : Bool) → p x ≡ b → p x ≡ false
    only x e l false f = f
    only x e (listed_at i h z) true f = absurd (true≢false (sym (list_any_at p members i 0 h (ap p z ∙ f)) ∙ e))

-- the test of each of the n members in turn, by its place
pub places_met : (members : List ℕ) (n : ℕ) (m d : Marks) → Members members n m → list_any (λ k. get_or d (get_or members k 0) false) (range_with_len 0 n) ≡ meets m d
places_met members n m d a = any_met (λ k. get_or members k 0) places m d marked (λ x h e. only x e (a.only x h) (get_or d x false) refl)
  where
    p : ℕ → Bool
    p k = get_or d (get_or members k 0) false

    places : List ℕ
    places = range_with_len 0 n

    many : length places ≡ n
    many = length-range_with_len 0 n

    place : (i : ℕ) → i < n → get_or places i 0 ≡ i
    place i h = get_or-range_with_len 0 n i 0 h ∙ zero-add i

    marked : (i : ℕ) → i < length places → get_or m (get_or members (get_or places i 0) 0) false ≡ true
    marked i h = let l : i < n = omega (arith, many) in rw (place i l) (a.marked i l)

    only : (x : ℕ) → list_any p places ≡ false → Listed members n x → (b : Bool) → get_or d x false ≡ b → get_or d x false ≡ false
    only x e l false f = f
    only x e (listed_at i h z) true f =
        absurd (true≢false (sym (list_any_at p places i 0 (omega (arith, many)) (ap p (place i h) ∙ ap (λ y. get_or d y false) z ∙ f)) ∙ e))

-- and so the code's answer is the definition's
pub indexed_found : (members : List ℕ) (n : ℕ) (d : Marks) {r : Bool} → ((m : Marks) → Members members n m → r ≡ meets m d) → MemberIndexed members n d r
indexed_found members n d f τ v is a e = f _ a ∙ rw e (dynamic_family τ v is)

-- the first n of a table, as a list of their own
pub first_listed : (members : List ℕ) (n : ℕ) (m : Marks) → Members members n m → n ≤ length members → Members (take n members) (length (take n members)) m
first_listed members n m a l =
    record {
      many = z ∙ a.many;
      marked = λ i h. let k : i < n = omega (arith, z) in rw (get_or-take n members i 0 k) (a.marked i k);
      only = λ x h. go x (a.only x h);
    }
  where
    z : length (take n members) ≡ n
    z = length-take-le n members l

    go : (x : ℕ) → Listed members n x → Listed (take n members) (length (take n members)) x
    go x (listed_at i h e) = listed_at i (omega (arith, z)) (get_or-take n members i 0 h ∙ e)

-- there are no more members than marks
pub listed_few : (members : List ℕ) (n : ℕ) (m : Marks) → Members members n m → n ≤ length m
listed_few members n m a = omega (arith, a.many, size_le m)

-- the flags of k members are stored, and of one more
pub flag_again : (members : List ℕ) (on : Bool) (m₀ m : Marks) (k d : ℕ) {m' : Marks} → Storing members k on m₀ m
    → d ≡ get_or members k 0 → m' ≡ set m d on → Storing members (k + 1) on m₀ m'
flag_again members on m₀ m k d u ed em =
    rw em record {
      long = length-set m d on ∙ u.long;
      stored = λ i q l. ⊎_elim
          (λ z. let e : d ≡ get_or members i 0 = ed ∙ ap (λ y. get_or members y 0) (sym z) in rw e (get_or-set_same m _ on false (omega (arith, u.long))))
          (λ z. same _ (omega (arith, u.long)) (u.stored i z l) (eqb (get_or members i 0) d) refl)
          (newest i k (omega arith));
      each = λ x. more x (eqb x d) refl (ltb x (length m)) refl;
    }
  where
    same : (x : ℕ) → x < length m → get_or m x false ≡ on → (b : Bool) → eqb x d ≡ b → get_or (set m d on) x false ≡ on
    same x l e true z = rw (← eqb-true x d z) (get_or-set_same m x on false l)
    same x l e false z = get_or-set_other m d x on false (eqb-false x d z) ∙ e

    up : (x : ℕ) → get_or (set m d on) x false ≡ get_or m x false → Flagged members k on m₀ m x → Flagged members (k + 1) on m₀ (set m d on) x
    up x e (kept z) = kept (e ∙ z)
    up x e (listed (listed_at i l w) z) = listed (listed_at i (omega (arith, l)) w) (e ∙ z)

    more : (x : ℕ) → (b : Bool) → eqb x d ≡ b → (c : Bool) → ltb x (length m) ≡ c → Flagged members (k + 1) on m₀ (set m d on) x
    more x true e true l =
        let z : x ≡ d = eqb-true x d e in
        listed (listed_at k (omega arith) (sym ed ∙ sym z)) (rw (← z) (get_or-set_same m x on false (ltb-true _ _ l)))
    more x true e false l = let z : x ≡ d = eqb-true x d e in up x (rw (← z) (ap (λ y. get_or y x false) (set_out m x on (ltb-false _ _ l)))) (u.each x)
    more x false e c l = up x (get_or-set_other m d x on false (eqb-false x d e)) (u.each x)

-- so clearing the flags of all members leaves none
pub cleared : (members : List ℕ) (n : ℕ) (m₀ m : Marks) → Storing members n false m₀ m → ClearsMembers members n m₀ m
cleared members n m₀ m u a =
    ext_get_or false m (replicate (length m₀) false) (u.long ∙ sym (length-replicate (length m₀) false))
    (λ x y. go x (omega (arith, y, u.long)) (get_or m₀ x false) refl (u.each x) ∙ sym (clear_at (length m₀) x))
  where
    go : (x : ℕ) → x < length m₀ → (b : Bool) → get_or m₀ x false ≡ b → Flagged members n false m₀ m x → get_or m x false ≡ false
    go x l b e (listed w z) = z
    go x l false e (kept z) = z ∙ e
    go x l true e (kept z) = gone (a.only x e)
      where
        gone : Listed members n x → get_or m x false ≡ false
        gone (listed_at i h w) = ap (λ y. get_or m y false) (sym w) ∙ u.stored i h (omega (arith, w, l))

-- where the members are the first n of a list, or all of it and, past its end, value 0
pub cleared_first : (members : List ℕ) (n : ℕ) (m₀ m : Marks) (front : List ℕ) → front ≡ take n members
    → Storing front (length front) false m₀ m → n ≤ length members → ClearsMembers members n m₀ m
cleared_first members n m₀ m front el u h a = cleared front (length front) m₀ m u (rw el (first_listed members n m₀ a h))

pub cleared_past : (members : List ℕ) (n : ℕ) (m₀ m : Marks) (front : List ℕ) {m' : Marks} → front ≡ take n members
    → Storing front (length front) false m₀ m → length members < n → m' ≡ set m 0 false → ClearsMembers members n m₀ m'
cleared_past members n m₀ m front {m'} el u h em =
    cleared members n m₀ m' record {
      long = one_more.long;
      stored = λ i q l. at i l (ltb i (length members)) refl;
      each = λ x. more x (one_more.each x);
    }
  where
    past : (i : ℕ) → length members ≤ i → get_or members i 0 ≡ 0
    past i l = get_or_past members i 0 l

    all : front ≡ members
    all = el ∙ take_all n members (omega arith)

    one_more : Storing members (length members + 1) false m₀ m'
    one_more = flag_again members false m₀ m (length members) 0 (rw all at u) (sym (past (length members) (omega arith))) em

    at : (i : ℕ) → get_or members i 0 < length m₀ → (b : Bool) → ltb i (length members) ≡ b → get_or m' (get_or members i 0) false ≡ false
    at i l true e = one_more.stored i (omega (arith, ltb-true i (length members) e)) l
    at i l false e =
        let z : get_or members i 0 ≡ get_or members (length members) 0 =
        past i (ltb-false i (length members) e) ∙ sym (past (length members) (omega arith))
        in
        rw z (one_more.stored (length members) (omega arith) (rw z at l))

    more : (x : ℕ) → Flagged members (length members + 1) false m₀ m' x → Flagged members n false m₀ m' x
    more x (kept z) = kept z
    more x (listed (listed_at i l w) z) = listed (listed_at i (omega (arith, l)) w) z
