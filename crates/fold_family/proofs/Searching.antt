-- The search for a family by rows: one turn takes a member or looks at one copy of the member taken last.
use Prim.Native.Nat.{ℕ, zero, suc, ◌+◌, ◌≤◌, ◌<◌}
use mathlib.Core.Path.{◌≡◌, refl, ap, ◌∙◌, sym, subst}
use mathlib.Core.List.{List}
use mathlib.Core.Bool.{Bool, true, false, true≢false}
use mathlib.Core.Logic.{⊎_elim}
use native.Mathlib.Omega.{arith}
use borrow.Author.Tests.{ltb-true, ltb-false, eqb-true, eqb-false, eq-eqb}
use lib.ListN.{length, get_or, set, length-set}
use lib.Seq.{get_or-set_same, get_or-set_other, set_comm}
use lib.Dec.{eqb, ltb}
use Rattle.fold.specs.Family.{Marks}
use Rattle.fold_family.specs.Copies.{Copy, rounds, last}
use Rattle.fold_family.specs.Turns.{one, size, copied_from}
use Rattle.fold_family.specs.Search.{Listed, listed_at}
use Rattle.fold_family.proofs.Sweeps.{rounds_length}
use Rattle.fold_family.proofs.Closed.{set_still, Below, below_trans, below_set, closed}
use Rattle.fold_family.proofs.Rows.{copy_at, newest, many, many_last, last_le, none_behind, last_own, size_set, copied_set, no_copies, same_copies}
use Rattle.fold_family.proofs.Shut.{asks, Idle, Shut, rounds_within, between, rounds_below, still_shut}

-- a search: m the marks, q the members, of which `found` are found and `taken` are taken; `row` is the next copy of the one taken last
pub record Searching (root : ℕ) (cs : List Copy) (v : ℕ) (m : Marks) (q : List ℕ) (found taken row turns : ℕ) : Type 0 where
  pub t : Marks
  pub u : ℕ
  pub long : length t ≡ length m
  pub order : taken ≤ found
  pub counted : size m ≡ found
  pub low : (i : ℕ) → i < found → get_or q i 0 < length m
  pub listed : (i : ℕ) → i < found → get_or m (get_or q i 0) false ≡ true
  pub only : (x : ℕ) → get_or m x false ≡ true → Listed q found x
  pub distinct : (i j : ℕ) → i < j → j < found → get_or q i 0 ≡ get_or q j 0 → ⊥
  pub took : (i : ℕ) → i < taken → get_or t (get_or q i 0) false ≡ true
  pub left : (i : ℕ) → taken ≤ i → i < found → get_or t (get_or q i 0) false ≡ false
  pub kept : Below t m
  pub inside : row ≤ length cs
  pub own : (j : ℕ) → row ≡ suc j → (copy_at cs j).source ≡ u
  pub mine : (j : ℕ) → row ≡ suc j → get_or t u false ≡ true
  pub shut : (j : ℕ) → j < length cs → get_or t (copy_at cs j).source false ≡ true → asks root (copy_at cs j) ≡ true → ((copy_at cs j).source ≡ u → row ≤ j)
      → Idle m (copy_at cs j)
  pub sound : (F : Marks) → length F ≡ length m → Shut root cs F → get_or F v false ≡ true → Below m F
  pub turned : turns + many cs u row ≡ taken + copied_from t cs (length cs)

-- a member is taken
pub search_take : (root : ℕ) (cs : List Copy) (v : ℕ) (m : Marks) (q : List ℕ) (found taken turns : ℕ)
    → Searching root cs v m q found taken 0 turns → taken < found
    → Searching root cs v m q found (suc taken) (last cs (get_or q taken 0) (length cs)) (suc turns)
unfolding many
search_take root cs v m q found taken turns s h =
    record {
      t = set s.t x true;
      u = x;
      long = length-set s.t x true ∙ s.long;
      order = h;
      counted = s.counted;
      low = s.low;
      listed = s.listed;
      only = s.only;
      distinct = s.distinct;
      took = λ i l.
          ⊎_elim (λ z. ap (λ k. get_or (set s.t x true) (get_or q k 0) false) z ∙ mark)
          (λ z. (below_set s.t x).each (get_or q i 0) (s.took i z))
          (newest i taken l);
      left = λ i l f. get_or-set_other s.t x (get_or q i 0) true false (λ e. s.distinct taken i l f (sym e)) ∙ s.left i (omega arith) f;
      kept = record { each = λ y l. in_marks y l (eqb y x) refl };
      inside = last_le cs x (length cs);
      own = λ j e. last_own cs x (length cs) j e;
      mine = λ j e. mark;
      shut = λ j l f a p. old j l f a p (eqb (copy_at cs j).source x) refl;
      sound = s.sound;
      turned = omega (arith, s.turned, many_last cs x (length cs), copied_set s.t cs x (length cs) lt fresh);
    }
  where
    x : ℕ
    x = get_or q taken 0

    lt : x < length s.t
    lt = omega (arith, s.low taken h, s.long)

    fresh : get_or s.t x false ≡ false
    fresh = s.left taken (omega arith) h

    mark : get_or (set s.t x true) x false ≡ true
    mark = get_or-set_same s.t x true false lt

    in_marks : (y : ℕ) → get_or (set s.t x true) y false ≡ true → (b : Bool) → eqb y x ≡ b → get_or m y false ≡ true
    in_marks y l true e = ap (λ k. get_or m k false) (eqb-true y x e) ∙ s.listed taken h
    in_marks y l false e = s.kept.each y (sym (get_or-set_other s.t x y true false (eqb-false y x e)) ∙ l)

    old : (j : ℕ) → j < length cs → get_or (set s.t x true) (copy_at cs j).source false ≡ true → asks root (copy_at cs j) ≡ true
        → ((copy_at cs j).source ≡ x → last cs x (length cs) ≤ j)
        → (b : Bool) → eqb (copy_at cs j).source x ≡ b → Idle m (copy_at cs j)
    old j l f a p true e = let z = eqb-true _ _ e in absurd (none_behind cs x (length cs) j (p z) l z)
    old j l f a p false e = s.shut j l (sym (get_or-set_other s.t x (copy_at cs j).source true false (eqb-false _ _ e)) ∙ f) a (λ z. omega arith)

-- what looking at copy j leaves: its marks, and that it adds nothing to them any more
module _ (root : ℕ) (cs : List Copy) (v : ℕ) (m : Marks) (q : List ℕ) (found taken turns j : ℕ) (s : Searching root cs v m q found taken (suc j) turns) where
  abbrev d : ℕ
  d = (copy_at cs j).dest

  row_own : (copy_at cs j).source ≡ s.u
  row_own = s.own j refl

  -- a row behind this one
  stands : (n : Marks) → (asks root (copy_at cs j) ≡ true → Idle n (copy_at cs j)) → ((k : ℕ) → Idle m (copy_at cs k) → Idle n (copy_at cs k))
      → (k : ℕ) → k < length cs → get_or s.t (copy_at cs k).source false ≡ true → asks root (copy_at cs k) ≡ true
      → ((copy_at cs k).source ≡ s.u → last cs s.u j ≤ k) → Idle n (copy_at cs k)
  stands n here old k l f a p = side (ltb k (suc j)) refl
    where
      mine : (copy_at cs k).source ≡ s.u → k < suc j → Idle n (copy_at cs k)
      mine z y =
          ⊎_elim (λ e. subst (λ i. Idle n (copy_at cs i)) (sym e) (here (ap (λ i. asks root (copy_at cs i)) (sym e) ∙ a)))
          (λ e. absurd (none_behind cs s.u j k (p z) e z))
          (newest k j y)

      whose : (b : Bool) → eqb (copy_at cs k).source s.u ≡ b → k < suc j → Idle n (copy_at cs k)
      whose true e y = mine (eqb-true _ _ e) y
      whose false e y = old k (s.shut k l f a (λ z. absurd (eqb-false _ _ e z)))

      side : (b : Bool) → ltb k (suc j) ≡ b → Idle n (copy_at cs k)
      side true e = whose (eqb (copy_at cs k).source s.u) refl (ltb-true _ _ e)
      side false e = old k (s.shut k l f a (λ z. ltb-false _ _ e))

  turn_more : suc turns + many cs s.u (last cs s.u j) ≡ taken + copied_from s.t cs (length cs)
  unfolding many
  turn_more =
      let c : one (eqb (copy_at cs j).source s.u) ≡ 1 = ap one (eq-eqb _ _ row_own) in
      omega (arith, s.turned, many_last cs s.u j)

  short : last cs s.u j ≤ length cs
  short = omega (arith, last_le cs s.u j, s.inside)

  -- it does not join: it does not ask for the root's shape, or its dest is marked or no value
  pub search_pass : (asks root (copy_at cs j) ≡ true → Idle m (copy_at cs j)) → Searching root cs v m q found taken (last cs s.u j) (suc turns)
  search_pass h =
      record {
        t = s.t;
        u = s.u;
        long = s.long;
        order = s.order;
        counted = s.counted;
        low = s.low;
        listed = s.listed;
        only = s.only;
        distinct = s.distinct;
        took = s.took;
        left = s.left;
        kept = s.kept;
        inside = short;
        own = λ i e. last_own cs s.u j i e;
        mine = λ i e. s.mine j refl;
        shut = stands m h (λ k e. e);
        sound = s.sound;
        turned = turn_more;
      }

  -- it joins
  module _ (a : asks root (copy_at cs j) ≡ true) (f : get_or m d false ≡ false) (lt : d < length m) (room : found < length q) where
    abbrev n : Marks
    n = set m d true

    abbrev r : List ℕ
    r = set q found d

    marked_d : get_or n d false ≡ true
    marked_d = get_or-set_same m d true false lt

    r_new : get_or r found 0 ≡ d
    r_new = get_or-set_same q found d 0 room

    r_old : (i : ℕ) → i < found → get_or r i 0 ≡ get_or q i 0
    r_old i l = get_or-set_other q found i d 0 (λ e. omega arith)

    each : (P : ℕ → Type 0) → ((i : ℕ) → i < found → P i) → P found → (i : ℕ) → i < suc found → P i
    each P old new i l = ⊎_elim (λ e. subst P (sym e) new) (λ e. old i e) (newest i found l)

    again : (k : ℕ) → Idle m (copy_at cs k) → Idle n (copy_at cs k)
    again k e = go (eqb d (copy_at cs k).dest) refl
      where
        go : (b : Bool) → eqb d (copy_at cs k).dest ≡ b → Idle n (copy_at cs k)
        go true z = set_still false n (copy_at cs k).dest (ap (λ i. get_or n i false) (sym (eqb-true _ _ z)) ∙ marked_d)
        go false z = set_comm m d (copy_at cs k).dest true true (eqb-false _ _ z) ∙ ap (λ l. set l d true) e

    find : (x : ℕ) → get_or n x false ≡ true → (b : Bool) → eqb x d ≡ b → Listed r (suc found) x
    find x h true e = listed_at found (omega arith) (r_new ∙ sym (eqb-true x d e))
    find x h false e = up (s.only x (sym (get_or-set_other m d x true false (eqb-false x d e)) ∙ h))
      where
        up : Listed q found x → Listed r (suc found) x
        up (listed_at i l z) = listed_at i (omega arith) (r_old i l ∙ z)

    not_listed : (i : ℕ) → i < found → get_or q i 0 ≡ d → ⊥
    not_listed i l z = true≢false (sym (s.listed i l) ∙ ap (λ k. get_or m k false) z ∙ f)

    not_taken : get_or s.t d false ≡ false
    not_taken = go (get_or s.t d false) refl
      where
        go : (b : Bool) → get_or s.t d false ≡ b → b ≡ false
        go true e = absurd (true≢false (sym (s.kept.each d e) ∙ f))
        go false e = refl

    within : (F : Marks) → length F ≡ length n → Shut root cs F → get_or F v false ≡ true
        → (x : ℕ) → get_or n x false ≡ true → (b : Bool) → eqb x d ≡ b → get_or F x false ≡ true
    within F l c h x y true e =
        let z : length F ≡ length m = l ∙ length-set m d true in
        let b = s.sound F z c h in
        let w : get_or F (copy_at cs j).source false ≡ true = b.each _ (s.kept.each _ (ap (λ i. get_or s.t i false) row_own ∙ s.mine j refl)) in
        let g : set F d true ≡ F = c.each j (omega (arith, s.inside)) w a in
        ap (λ i. get_or F i false) (eqb-true x d e) ∙ ap (λ l. get_or l d false) (sym g) ∙ get_or-set_same F d true false (omega arith)
    within F l c h x y false e = (s.sound F (l ∙ length-set m d true) c h).each x (sym (get_or-set_other m d x true false (eqb-false x d e)) ∙ y)

    pub search_join : Searching root cs v n r (suc found) taken (last cs s.u j) (suc turns)
    search_join =
        record {
          t = s.t;
          u = s.u;
          long = s.long ∙ sym (length-set m d true);
          order = omega (arith, s.order);
          counted = size_set m d lt f ∙ ap suc s.counted;
          low = λ i l. rw (length-set m d true) (each (λ i. get_or r i 0 < length m) (λ i e. rw (r_old i e) (s.low i e)) (rw r_new lt) i l);
          listed = each (λ i. get_or n (get_or r i 0) false ≡ true) (λ i e. rw (r_old i e) ((below_set m d).each _ (s.listed i e))) (rw r_new marked_d);
          only = λ x h. find x h (eqb x d) refl;
          distinct = λ i k l h e.
              ⊎_elim (λ z. not_listed i (omega arith) (sym (r_old i (omega arith)) ∙ e ∙ ap (λ y. get_or r y 0) z ∙ r_new))
              (λ z. s.distinct i k l z (sym (r_old i (omega arith)) ∙ e ∙ r_old k z))
              (newest k found h);
          took = λ i l. rw (r_old i (omega (arith, s.order))) (s.took i l);
          left = λ i l h.
              ⊎_elim (λ z. ap (λ y. get_or s.t (get_or r y 0) false) z ∙ ap (λ y. get_or s.t y false) r_new ∙ not_taken)
              (λ z. rw (r_old i z) (s.left i l z))
              (newest i found h);
          kept = below_trans s.kept (below_set m d);
          inside = short;
          own = λ i e. last_own cs s.u j i e;
          mine = λ i e. s.mine j refl;
          shut = stands n (λ z. set_still false n d marked_d) again;
          sound = λ F l c h. record { each = λ x y. within F l c h x y (eqb x d) refl };
          turned = turn_more;
        }

-- nothing is searched yet
pub search_start : (root : ℕ) (cs : List Copy) (v : ℕ) (clear m : Marks) (q : List ℕ)
    → ((x : ℕ) → get_or clear x false ≡ false) → size clear ≡ 0 → v < length clear → m ≡ set clear v true → get_or q 0 0 ≡ v
    → Searching root cs v m q 1 0 0 0
unfolding many
search_start root cs v clear m q none z lt em eq = rw em (record {
  t = clear;
  u = v;
  long = sym (length-set clear v true);
  order = omega arith;
  counted = size_set clear v lt (none v) ∙ ap suc z;
  low = λ i l. rw (length-set clear v true) (first i l (λ x. x < length clear) lt);
  listed = λ i l. first i l (λ x. get_or (set clear v true) x false ≡ true) (get_or-set_same clear v true false lt);
  only = λ x h. found x h (eqb x v) refl;
  distinct = λ i j l h e. absurd (omega arith);
  took = λ i l. absurd (omega arith);
  left = λ i l h. none (get_or q i 0);
  kept = record { each = λ x h. absurd (true≢false (sym h ∙ none x)) };
  inside = omega arith;
  own = λ j e. absurd (omega arith);
  mine = λ j e. absurd (omega arith);
  shut = λ j l f a p. absurd (true≢false (sym f ∙ none _));
  sound = λ F l c h. record { each = λ x y. inside x y F h (eqb x v) refl };
  turned = omega (arith, no_copies clear cs none (length cs));
})
  where
    first : (i : ℕ) → i < 1 → (P : ℕ → Type 0) → P v → P (get_or q i 0)
    first zero l P p = subst P (sym eq) p
    first (suc i) l P p = absurd (omega arith)

    found : (x : ℕ) → get_or (set clear v true) x false ≡ true → (b : Bool) → eqb x v ≡ b → Listed q 1 x
    found x h true e = listed_at 0 (omega arith) (eq ∙ sym (eqb-true x v e))
    found x h false e = absurd (true≢false (sym h ∙ get_or-set_other clear v x true false (eqb-false x v e) ∙ none x))

    inside : (x : ℕ) → get_or (set clear v true) x false ≡ true → (F : Marks) → get_or F v false ≡ true → (b : Bool) → eqb x v ≡ b → get_or F x false ≡ true
    inside x y F h true e = ap (λ k. get_or F k false) (eqb-true x v e) ∙ h
    inside x y F h false e = absurd (true≢false (sym y ∙ get_or-set_other clear v x true false (eqb-false x v e) ∙ none x))

-- the search is over: the marks are those of the rounds, and the turns are one for each member and one for each copy of a member
pub record Finished (root : ℕ) (cs : List Copy) (start m : Marks) (found turns : ℕ) : Type 0 where
  pub same : (k : ℕ) → length cs ≤ k → m ≡ rounds root k start cs
  pub members : found ≡ size m
  pub exact : turns ≡ size m + copied_from m cs (length cs)

pub search_done : (root : ℕ) (cs : List Copy) (v : ℕ) (start m : Marks) (q : List ℕ) (found taken turns : ℕ)
    → Searching root cs v m q found taken 0 turns → found ≤ taken
    → length start ≡ length m → get_or start v false ≡ true → ((x : ℕ) → get_or start x false ≡ true → x ≡ v) → get_or m v false ≡ true
    → Finished root cs start m found turns
unfolding many
search_done root cs v start m q found taken turns s h l b only has =
    record {
      same = λ k n.
          let f : Marks = rounds root k start cs in
          between m f (sym l ∙ sym (rounds_length root k start cs))
          (s.sound f (rounds_length root k start cs ∙ l) (still_shut root cs f (closed root k start cs n)) ((rounds_below root k cs start).each v b))
          (rounds_within root k cs start m l (record { each = λ x y. ap (λ i. get_or m i false) (only x y) ∙ has }) all_shut);
      members = sym s.counted;
      exact = omega (arith, s.turned, same_copies s.t m cs equal (length cs), s.counted, s.order);
    }
  where
    took : (x : ℕ) → get_or m x false ≡ true → get_or s.t x false ≡ true
    took x y = go (s.only x y)
      where
        go : Listed q found x → get_or s.t x false ≡ true
        go (listed_at i z e) = ap (λ k. get_or s.t k false) (sym e) ∙ s.took i (omega arith)

    equal : (x : ℕ) → get_or s.t x false ≡ get_or m x false
    equal x = go (get_or s.t x false) (get_or m x false) refl refl
      where
        go : (a b : Bool) → get_or s.t x false ≡ a → get_or m x false ≡ b → get_or s.t x false ≡ get_or m x false
        go true b e f = e ∙ sym (s.kept.each x e)
        go false true e f = absurd (true≢false (sym (took x f) ∙ e))
        go false false e f = e ∙ sym f

    all_shut : Shut root cs m
    all_shut = record { each = λ j z f a. s.shut j z (took _ f) a (λ y. omega arith) }
