-- Sets that the copies add nothing to: the rounds end with one, and stay within any.
use Prim.Native.Nat.{ℕ, zero, suc, ◌<◌}
use mathlib.Core.Path.{◌≡◌, refl, ap, ◌∙◌, sym, subst}
use mathlib.Core.List.{List, [], ◌∷◌}
use mathlib.Core.Bool.{Bool, true, false, cond, ◌||◌, true≢false}
use native.Mathlib.Omega.{arith}
use borrow.Author.Tests.{ltb-true, ltb-false, eqb-true, eqb-false}
use lib.ListN.{length, get_or, set}
use lib.Seq.{get_or-set_same, get_or-set_other, set_out, ext_get_or}
use lib.Dec.{eqb, ltb}
use Rattle.fold.specs.Family.{Marks}
use Rattle.fold_family.specs.Copies.{Copy, joining, join_all, rounds}
use Rattle.fold_family.proofs.Sweeps.{joining_length, join_length}
use Rattle.fold_family.proofs.Closed.{Below, below_refl, below_trans, joins, joins_below, all_below}
use Rattle.fold_family.proofs.Rows.{copy_at}

-- a copy asks for the root's shape, or for any
abbrev pub asks : ℕ → Copy → Bool
asks root c = eqb c.asked 0 || eqb c.asked root

-- a copy adds nothing to a set
abbrev pub Idle : Marks → Copy → Type 0
Idle m c = set m c.dest true ≡ m

-- a set that the copies add nothing to
pub record Shut (root : ℕ) (cs : List Copy) (F : Marks) : Type 0 where
  pub each : (j : ℕ) → j < length cs → get_or F (copy_at cs j).source false ≡ true → asks root (copy_at cs j) ≡ true → Idle F (copy_at cs j)

-- copies of a set that is shut add nothing to what lies within it
copy_within : (root : ℕ) (m F : Marks) (c : Copy) → length m ≡ length F → Below m F → (get_or F c.source false ≡ true → asks root c ≡ true → Idle F c)
    → Below (joining root m c) F
unfolding joining
copy_within root m F c l b h = go (asks root c) refl (get_or m c.source false) refl
  where
    put : (x : ℕ) → get_or (set m c.dest true) x false ≡ true → Idle F c → (b : Bool) → eqb x c.dest ≡ b → get_or F x false ≡ true
    put x y e true z = room (ltb x (length F)) refl
      where
        room : (b : Bool) → ltb x (length F) ≡ b → get_or F x false ≡ true
        room true w =
            ap (λ k. get_or k x false) (sym e)
            ∙ ap (λ k. get_or (set F k true) x false) (sym (eqb-true x _ z))
            ∙ get_or-set_same F x true false (ltb-true _ _ w)
        room false w =
            let o : set m x true ≡ m = set_out m x true (omega (arith, ltb-false x (length F) w)) in
            b.each x (sym (ap (λ k. get_or k x false) (ap (λ k. set m k true) (sym (eqb-true x _ z)) ∙ o)) ∙ y)
    put x y e false z = b.each x (sym (get_or-set_other m c.dest x true false (eqb-false x _ z)) ∙ y)

    go : (a : Bool) → asks root c ≡ a → (g : Bool) → get_or m c.source false ≡ g → Below (cond a (cond g (set m c.dest true) m) m) F
    go true ea true eg = let e = h (b.each _ eg) ea in record { each = λ x y. put x y e (eqb x c.dest) refl }
    go true ea false eg = b
    go false ea g eg = b

all_within : (root : ℕ) (cs : List Copy) (m F : Marks) → length m ≡ length F → Below m F → Shut root cs F → Below (join_all root m cs) F
unfolding join_all
all_within root [] m F l b h = b
all_within root (c ∷ cs) m F l b h =
    all_within root cs (joining root m c) F (joining_length root m c ∙ l) (copy_within root m F c l b (h.each 0 (omega arith)))
    (record { each = λ j x. h.each (suc j) (omega arith) })

pub rounds_within : (root k : ℕ) (cs : List Copy) (m F : Marks) → length m ≡ length F → Below m F → Shut root cs F → Below (rounds root k m cs) F
unfolding rounds
rounds_within root zero cs m F l b h = b
rounds_within root (suc k) cs m F l b h = rounds_within root k cs (join_all root m cs) F (join_length root m cs ∙ l) (all_within root cs m F l b h) h

-- equal where each lies within the other
pub between : (m n : Marks) → length m ≡ length n → Below m n → Below n m → m ≡ n
between m n l a b = ext_get_or false m n l (λ i h. go i (get_or m i false) (get_or n i false) refl refl)
  where
    go : (i : ℕ) (x y : Bool) → get_or m i false ≡ x → get_or n i false ≡ y → get_or m i false ≡ get_or n i false
    go i true y e f = e ∙ sym (a.each i e)
    go i false true e f = absurd (true≢false (sym (b.each i f) ∙ e))
    go i false false e f = e ∙ sym f

pub rounds_below : (root k : ℕ) (cs : List Copy) (m : Marks) → Below m (rounds root k m cs)
unfolding rounds
rounds_below root zero cs m = below_refl m
rounds_below root (suc k) cs m = below_trans (all_below root cs m) (rounds_below root k cs (join_all root m cs))

-- a copy that asks for the root's shape and whose source is marked
open_join : (root : ℕ) (n : Marks) (c : Copy) → asks root c ≡ true → get_or n c.source false ≡ true → joining root n c ≡ set n c.dest true
unfolding joining
open_join root n c a f = rw (a, f)

-- a set that a round leaves is shut
pub still_shut : (root : ℕ) (cs : List Copy) (n : Marks) → join_all root n cs ≡ n → Shut root cs n
unfolding join_all
still_shut root [] n e = record { each = λ j l. absurd (omega arith) }
still_shut root (c ∷ cs) n e = record { each = λ j. go j (still_shut root cs n rest) }
  where
    one_still : joining root n c ≡ n
    one_still =
        between (joining root n c) n (joining_length root n c) (subst (λ x. Below (joining root n c) x) e (all_below root cs (joining root n c)))
        (joins_below n c _ (joins root n c))

    rest : join_all root n cs ≡ n
    rest = ap (λ x. join_all root x cs) (sym one_still) ∙ e

    put : asks root c ≡ true → get_or n c.source false ≡ true → Idle n c
    put a f = sym (open_join root n c a f) ∙ one_still

    go : (j : ℕ) → Shut root cs n → j < length (c ∷ cs) → get_or n (copy_at (c ∷ cs) j).source false ≡ true → asks root (copy_at (c ∷ cs) j) ≡ true
        → Idle n (copy_at (c ∷ cs) j)
    go zero r l f a = put a f
    go (suc j) r l f a = r.each j (omega arith) f a
