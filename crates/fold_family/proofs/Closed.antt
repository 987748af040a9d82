-- As many rounds as there are copies end with a set that no further round changes: a family is closed.
use Prim.Native.Nat.{ℕ, zero, suc, ◌+◌, ◌≤◌, ◌<◌}
use mathlib.Core.Path.{◌≡◌, refl, ap, ◌∙◌, sym, subst}
use mathlib.Core.List.{List, [], ◌∷◌, ◌++◌, append_assoc}
use mathlib.Core.Bool.{Bool, true, false, cond, ◌||◌}
use mathlib.Core.Logic.{◌⊎◌, inl, inr}
use mathlib.Core.Option.{Option, none, some}
use native.Mathlib.Omega.{arith}
use borrow.Author.Tests.{ltb-true, ltb-false, eqb-true, eqb-false}
use lib.ListN.{length, get_or, set, replicate}
use lib.Seq.{get_or-set_same, get_or-set_other, set_out}
use lib.Dec.{eqb, ltb}
use Rattle.mir.specs.declared.ValueId.{ValueId}
use Rattle.mir.specs.Syntax.{Instruction}
use Rattle.mir.specs.Lookup.{Types, value_row, shape}
use Rattle.fold.specs.Family.{Marks, mark, family}
use Rattle.fold_family.specs.Copies.{Copy, copy_of, before, copies, joining, join_all, rounds}
use Rattle.fold_family.proofs.Sweeps.{family_copies, rounds_still}

-- a mark that stands already, whatever is read past the end
pub set_still : (past : Bool) (m : Marks) (v : ℕ) → get_or m v past ≡ true → set m v true ≡ m
set_still past [] v h = refl
set_still past (a ∷ m) zero h = ap (λ x. x ∷ m) (sym h)
set_still past (a ∷ m) (suc v) h = ap (λ x. a ∷ x) (set_still past m v h)

-- marks only come
pub record Below (m n : Marks) : Type 0 where
  pub each : (v : ℕ) → get_or m v false ≡ true → get_or n v false ≡ true

pub below_refl : (m : Marks) → Below m m
below_refl m = record { each = λ v h. h }

pub below_trans : {l m n : Marks} → Below l m → Below m n → Below l n
below_trans a b = record { each = λ v h. b.each v (a.each v h) }

pub below_set : (m : Marks) (d : ℕ) → Below m (set m d true)
below_set m d = record { each = λ v h. go v h (eqb v d) refl }
  where
    room : (v : ℕ) → get_or m v false ≡ true → (b : Bool) → ltb v (length m) ≡ b → get_or (set m v true) v false ≡ true
    room v h true e = get_or-set_same m v true false (ltb-true v (length m) e)
    room v h false e = ap (λ n. get_or n v false) (set_out m v true (ltb-false v (length m) e)) ∙ h

    go : (v : ℕ) → get_or m v false ≡ true → (b : Bool) → eqb v d ≡ b → get_or (set m d true) v false ≡ true
    go v h true e = ap (λ k. get_or (set m k true) v false) (sym (eqb-true v d e)) ∙ room v h (ltb v (length m)) refl
    go v h false e = get_or-set_other m d v true false (eqb-false v d e) ∙ h

-- a copy changes nothing, or marks its dest, which was not marked
pub data Joins (m : Marks) (c : Copy) : Marks → Type 0 where
  still : Joins m c m
  new : get_or m c.dest false ≡ false → get_or (set m c.dest true) c.dest false ≡ true → Joins m c (set m c.dest true)

pub joins : (root : ℕ) (m : Marks) (c : Copy) → Joins m c (joining root m c)
unfolding joining
joins root m c = go (eqb c.asked 0 || eqb c.asked root) (get_or m c.source false)
  where
    d : ℕ
    d = c.dest

    room : (b : Bool) → ltb d (length m) ≡ b → get_or m d false ≡ false → Joins m c (set m d true)
    room true e f = new f (get_or-set_same m d true false (ltb-true d (length m) e))
    room false e f = subst (Joins m c) (sym (set_out m d true (ltb-false d (length m) e))) still

    fresh : (b : Bool) → get_or m d false ≡ b → Joins m c (set m d true)
    fresh true e = subst (Joins m c) (sym (set_still false m d e)) still
    fresh false e = room (ltb d (length m)) refl e

    go : (a b : Bool) → Joins m c (cond a (cond b (set m d true) m) m)
    go true true = fresh (get_or m d false) refl
    go true false = still
    go false b = still

pub joins_below : (m : Marks) (c : Copy) (n : Marks) → Joins m c n → Below m n
joins_below m c n still = below_refl m
joins_below m c n (new f t) = below_set m c.dest

pub all_below : (root : ℕ) (cs : List Copy) (m : Marks) → Below m (join_all root m cs)
unfolding join_all
all_below root [] m = below_refl m
all_below root (c ∷ cs) m = below_trans (joins_below m c _ (joins root m c)) (all_below root cs (joining root m c))

-- how many copies have a dest that is not marked
abbrev missing : Bool → ℕ
missing true = 0
missing false = 1

abbrev pub unmarked : Marks → List Copy → ℕ
unmarked m [] = 0
unmarked m (c ∷ cs) = missing (get_or m c.dest false) + unmarked m cs

missing_le : (a b : Bool) → (a ≡ true → b ≡ true) → missing b ≤ missing a
missing_le true b h = rw (h refl) (omega arith)
missing_le false true h = omega arith
missing_le false false h = omega arith

unmarked_below : (cs : List Copy) (m n : Marks) → Below m n → unmarked n cs ≤ unmarked m cs
unmarked_below [] m n b = omega arith
unmarked_below (c ∷ cs) m n b =
    omega (arith, missing_le (get_or m c.dest false) (get_or n c.dest false) (b.each c.dest), unmarked_below cs m n b)

unmarked_least : (cs : List Copy) (m : Marks) → unmarked m cs ≤ length cs
unmarked_least [] m = omega arith
unmarked_least (c ∷ cs) m = omega (arith, go (get_or m c.dest false), unmarked_least cs m)
  where
    go : (b : Bool) → missing b ≤ 1
    go true = omega arith
    go false = omega arith

-- where a copy among others is new, there are fewer
unmarked_new : (pre cs : List Copy) (c : Copy) (m n : Marks) → Below m n → get_or m c.dest false ≡ false → get_or n c.dest false ≡ true
    → unmarked n (pre ++ (c ∷ cs)) < unmarked m (pre ++ (c ∷ cs))
unmarked_new [] cs c m n b f t =
    let x : missing (get_or m c.dest false) ≡ 1 = ap missing f in
    let y : missing (get_or n c.dest false) ≡ 0 = ap missing t in
    let z = unmarked_below cs m n b in
    omega arith
unmarked_new (a ∷ pre) cs c m n b f t =
    let x = missing_le (get_or m a.dest false) (get_or n a.dest false) (b.each a.dest) in
    let y = unmarked_new pre cs c m n b f t in
    omega arith

-- a round over the rest of the copies changes nothing, or there are fewer
pub data Round (all : List Copy) (m : Marks) : Marks → Type 0 where
  same : Round all m m
  fewer : (n : Marks) → unmarked n all < unmarked m all → Round all m n

pub a_round : (root : ℕ) (pre cs : List Copy) (m : Marks) → Round (pre ++ cs) m (join_all root m cs)
unfolding join_all
a_round root pre [] m = same
a_round root pre (c ∷ cs) m =
    go (joining root m c) (joins root m c) (λ n. subst (λ all. Round all n (join_all root n cs)) (append_assoc pre (c ∷ []) cs) (a_round root (pre ++ (c ∷ [])) cs n))
  where
    go : (n : Marks) → Joins m c n → ((n : Marks) → Round (pre ++ (c ∷ cs)) n (join_all root n cs))
        → Round (pre ++ (c ∷ cs)) m (join_all root n cs)
    go n still r = r m
    go n (new f t) r =
        let b = below_set m c.dest in
        let x = unmarked_new pre cs c m (set m c.dest true) b f t in
        let y = unmarked_below (pre ++ (c ∷ cs)) (set m c.dest true) (join_all root (set m c.dest true) cs) (all_below root cs (set m c.dest true)) in
        fewer (join_all root (set m c.dest true) cs) (omega arith)

-- a further round over the copies changes nothing
abbrev Still : ℕ → Marks → List Copy → Type 0
Still root m cs = join_all root m cs ≡ m

-- after k rounds nothing changes any more, or there are k fewer
many_rounds : (root k : ℕ) (m : Marks) (cs : List Copy) → Still root (rounds root k m cs) cs ⊎ (unmarked (rounds root k m cs) cs + k ≤ unmarked m cs)
unfolding rounds
many_rounds root zero m cs = inr (omega arith)
many_rounds root (suc k) m cs = go (join_all root m cs) refl (a_round root [] cs m) (many_rounds root k (join_all root m cs) cs)
  where
    go : (n : Marks) → join_all root m cs ≡ n → Round cs m n → Still root (rounds root k n cs) cs ⊎ (unmarked (rounds root k n cs) cs + k ≤ unmarked n cs)
        → Still root (rounds root k n cs) cs ⊎ (unmarked (rounds root k n cs) cs + suc k ≤ unmarked m cs)
    go n e r (inl h) = inl h
    go n e same (inr h) = inl (let z = rounds_still root k m cs e in ap (λ x. join_all root x cs) z ∙ e ∙ sym z)
    go n e (fewer l f) (inr h) = inr (omega arith)

-- the rounds that the definition makes are enough
pub closed : (root k : ℕ) (m : Marks) (cs : List Copy) → length cs ≤ k → join_all root (rounds root k m cs) cs ≡ rounds root k m cs
closed root k m cs l = go (many_rounds root k m cs)
  where
    none_left : (n : Marks) → unmarked n cs ≡ 0 → Still root n cs
    none_left n z = end (join_all root n cs) (a_round root [] cs n)
      where
        end : (x : Marks) → Round cs n x → x ≡ n
        end x same = refl
        end x (fewer y f) = absurd (omega arith)

    go : Still root (rounds root k m cs) cs ⊎ (unmarked (rounds root k m cs) cs + k ≤ unmarked m cs) → Still root (rounds root k m cs) cs
    go (inl h) = h
    go (inr h) = none_left (rounds root k m cs) (omega (arith, unmarked_least cs m))

-- there are no more copies than instructions
before_few : (o : Option Copy) (cs : List Copy) → length (before o cs) ≤ suc (length cs)
before_few none cs = omega arith
before_few (some c) cs = omega arith

pub copies_few : (τ : Types) (is : List Instruction) → length (copies τ is) ≤ length is
unfolding copies
copies_few τ [] = omega arith
copies_few τ (i ∷ is) = omega (arith, before_few (copy_of τ i.kind) (copies τ is), copies_few τ is)

-- one more sweep over the copies changes nothing of a family
pub family_closed : (τ : Types) (v : ValueId) (is : List Instruction) → join_all (shape (value_row τ v)) (family τ v is) (copies τ is) ≡ family τ v is
family_closed τ v is =
    rw (family_copies τ v is) (closed (shape (value_row τ v)) (length is) (mark (replicate (length τ.recorded) false) v) (copies τ is) (copies_few τ is))
