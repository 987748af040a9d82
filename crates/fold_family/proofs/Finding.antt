-- The code's search for a family is the search by rows, and ends with the family.
use Prim.Native.Nat.{ℕ, zero, suc, ◌+◌, ◌≤◌, ◌<◌}
use mathlib.Core.Path.{◌≡◌, refl, ap, ◌∙◌, sym}
use mathlib.Core.List.{List, [], ◌∷◌}
use mathlib.Core.Bool.{Bool, true, false, not, ◌&&◌, ◌||◌, true≢false}
use native.Mathlib.Omega.{arith}
use native.Mathlib.Numerals.{add-one}
use borrow.Author.Tests.{ltb-true, ltb-false, eqb-true, eqb-false}
use lib.ListN.{length, get_or, set, replicate, length-set, length-replicate}
use lib.Seq.{get_or-set_same, get_or-set_other}
use lib.Dec.{eqb, ltb}
use Rattle.table.proofs.Elements.{clear_at}
use Rattle.mir.specs.declared.ValueId.{ValueId}
use Rattle.mir.specs.Most.{most_values}
use Rattle.fold.specs.Family.{Marks, mark, family}
use Rattle.fold_family.specs.Copies.{Copy, copies, rounds, last, row_at, firsts_at, RowsAt}
use Rattle.fold_family.specs.Turns.{one, size, copied_from, turns_of}
use Rattle.std.proofs.Common.{Some, None, is_some, Option as Answered}
use Rattle.fold_family.specs.Search.{most_turns, row_number, joins_at, Join, Turn, is_open, FindsFamily}
use Rattle.fold_family.specs.declared.Search.{Search}
use Rattle.fold_family.specs.declared.Found.{Found}
use Rattle.fold_family.proofs.Sweeps.{family_copies}
use Rattle.fold_family.proofs.Closed.{set_still, below_set, copies_few}
use Rattle.fold_family.proofs.Rows.{copy_at, size_set}
use Rattle.fold_family.proofs.Shut.{asks, Idle}
use Rattle.fold_family.proofs.Searching.{Searching, search_start, search_take, search_pass, search_join, search_done}

-- no more are marked than there are values, and no more copies are of marked values than there are copies
one_le : (b : Bool) → one b ≤ 1
one_le true = omega arith
one_le false = omega arith

pub size_le : (m : Marks) → size m ≤ length m
size_le [] = omega arith
size_le (b ∷ m) = omega (arith, one_le b, size_le m)

copied_le : (m : Marks) (cs : List Copy) (e : ℕ) → copied_from m cs e ≤ e
unfolding copied_from
copied_le m cs zero = omega arith
copied_le m cs (suc j) = omega (arith, one_le (get_or m (copy_at cs j).source false), copied_le m cs j)

-- nothing is marked of a clear table
pub size_clear : (n : ℕ) → size (replicate n false) ≡ 0
size_clear zero = refl
size_clear (suc n) = omega (arith, size_clear n)

-- a marked value is one of the table
marked_low : (m : Marks) (x : ℕ) → get_or m x false ≡ true → x < length m
marked_low [] x h = absurd (true≢false (sym h))
marked_low (a ∷ m) zero h = omega arith
marked_low (a ∷ m) (suc x) h = omega (arith, marked_low m x h)

-- where a search is open, and where it is over
pub open_takes : (q : Search) → q.copy ≡ None → is_open q ≡ true → q.taken < q.found
open_takes q z h = ltb-true q.taken q.found (rw z at h)

pub over_row : (q : Search) → is_open q ≡ false → (row_number q.copy ≡ 0) × (q.found ≤ q.taken)
over_row q h = go q.copy h
  where
    go : (o : Answered ℕ) → (is_some o || ltb q.taken q.found) ≡ false → (row_number o ≡ 0) × (q.found ≤ q.taken)
    go None f = (refl, omega (arith, ltb-false q.taken q.found f))
    go (Some k) f = absurd (true≢false f)

-- a copy joins where it asks for the root's shape, or for any, and its dest is a value that is not marked
abbrev entering : ℕ → Marks → Copy → Bool
entering root m c = asks root c && not (get_or m c.dest true)

-- a value that is not marked
unmarked_new : (m : Marks) (d : ℕ) → get_or m d true ≡ false → (d < length m) × (get_or m d false ≡ false)
unmarked_new [] d h = absurd (true≢false h)
unmarked_new (a ∷ m) zero h = (omega arith, h)
unmarked_new (a ∷ m) (suc d) h = let r = unmarked_new m d h in (omega (arith, r.0), r.1)

-- one that does not join adds nothing
idle_passed : (root : ℕ) (m : Marks) (c : Copy) → entering root m c ≡ false → asks root c ≡ true → Idle m c
idle_passed root m c h a = go (get_or m c.dest true) refl (sym (ap (λ b. b && not (get_or m c.dest true)) a) ∙ h)
  where
    go : (b : Bool) → get_or m c.dest true ≡ b → not b ≡ false → Idle m c
    go true e f = set_still true m c.dest e
    go false e f = absurd (true≢false f)

-- one that joins
record Joining (root : ℕ) (m : Marks) (c : Copy) : Type 0 where
  asked : asks root c ≡ true
  low : c.dest < length m
  new : get_or m c.dest false ≡ false

joining_at : (root : ℕ) (m : Marks) (c : Copy) → entering root m c ≡ true → Joining root m c
joining_at root m c h = go (asks root c) refl (get_or m c.dest true) refl h
  where
    go : (a : Bool) → asks root c ≡ a → (b : Bool) → get_or m c.dest true ≡ b → (a && not b) ≡ true → Joining root m c
    go true ea false eb k = let r = unmarked_new m c.dest eb in record { asked = ea; low = r.0; new = r.1 }
    go true ea true eb k = absurd (true≢false (sym k))
    go false ea b eb k = absurd (true≢false (sym k))

-- a search under way, `clear` the marks and `room` the members before it
pub record Going (table : List ℕ) (root v : ℕ) (clear : Marks) (room : List ℕ) (q : Search) (m : Marks) (members : List ℕ) (turns : ℕ) : Type 0 where
  pub under : turns ≤ most_turns + 1
  pub found_few : q.found ≤ turns + 1
  pub taken_few : q.taken ≤ turns
  pub long : length m ≡ length clear
  pub wide : length members ≡ length room
  pub searching :
      (cs : List Copy) (n : ℕ)
      → RowsAt table cs → v < n → n ≤ most_values → most_values ≤ length room → clear ≡ replicate n false
      → Searching root cs v m members q.found q.taken (row_number q.copy) turns
  pub has : (n : ℕ) → v < n → clear ≡ replicate n false → get_or m v false ≡ true

module _ (table : List ℕ) (root v : ℕ) (clear : Marks) (room : List ℕ) where
  pub going_start : {m : Marks} {members : List ℕ} → m ≡ set clear v true → members ≡ set room 0 v
      → Going table root v clear room (record { found = 1; taken = 0; copy = None }) m members 0
  going_start {m} {members} em el =
      record {
        under = omega arith;
        found_few = omega arith;
        taken_few = omega arith;
        long = ap length em ∙ length-set clear v true;
        wide = ap length el ∙ length-set room 0 v;
        searching = λ cs n r lt few w ec.
            search_start root cs v clear m members (λ x. ap (λ c. get_or c x false) ec ∙ clear_at n x) (ap size ec ∙ size_clear n)
            (rw (ec, length-replicate n false) lt) em (ap (λ l. get_or l 0 0) el ∙ get_or-set_same room 0 v 0 (omega arith));
        has = λ n lt ec. ap (λ c. get_or c v false) em ∙ get_or-set_same clear v true false (rw (ec, length-replicate n false) lt);
      }

  module _ (q : Search) (m : Marks) (members : List ℕ) (turns : ℕ) (u : Going table root v clear room q m members turns) (few : turns ≤ most_turns) where
    -- the next member is taken
    taken_on : {r : Search} {m' : Marks} {members' : List ℕ} → is_open q ≡ true → q.copy ≡ None → r.found ≡ q.found → r.taken ≡ q.taken + 1
        → row_number r.copy ≡ get_or table (firsts_at + get_or members q.taken 0) 0 → m' ≡ m → members' ≡ members
        → Going table root v clear room r m' members' (turns + 1)
    taken_on {r} o z ef et er em el =
        rw (em, el) record {
          under = omega arith;
          found_few = omega (arith, u.found_few);
          taken_few = omega (arith, u.taken_few);
          long = u.long;
          wide = u.wide;
          searching = λ cs n rows lt most w ec.
              let s = u.searching cs n rows lt most w ec in
              let x = get_or members q.taken 0 in
              let low : x < most_values = omega (arith, s.low q.taken (open_takes q z o), u.long, ap length ec, length-replicate n false) in
              let t = search_take root cs v m members q.found q.taken turns (rw z at s) (open_takes q z o) in
              rw (ef, et, er, rows.first x low, add-one q.taken, add-one turns) t;
          has = u.has;
        }

    -- copy k is looked at
    module _ (k : ℕ) (ek : q.copy ≡ Some k) where
      -- the search at that copy, the row of the copy before it of the same source, and that the row is one of its own
      behind : (cs : List Copy) (n : ℕ) → RowsAt table cs → n ≤ most_values → clear ≡ replicate n false
          → (s : Searching root cs v m members q.found q.taken (suc k) turns) → last cs s.u k ≡ get_or table (row_at k + 2) 0
      behind cs n r most ec s =
          let low : s.u < most_values = omega (arith, marked_low s.t s.u (s.mine k refl), s.long, u.long, ap length ec, length-replicate n false) in
          sym (r.next k s.u s.inside (s.own k refl) low)

      -- what the table says of a copy
      said : (cs : List Copy) → RowsAt table cs → k < length cs → joins_at table k root m ≡ entering root m (copy_at cs k)
      said cs r h = rw (r.dest k h, r.asked k h) refl

      looked_on : {r : Search} {m' : Marks} {members' : List ℕ} → r.taken ≡ q.taken → row_number r.copy ≡ get_or table (row_at k + 2) 0
          → Join table k root q.found m m' members members' r.found → Going table root v clear room r m' members' (turns + 1)
      looked_on {r} et er (Join.passes j em el ef) =
          rw (em, el) record {
            under = omega arith;
            found_few = omega (arith, u.found_few);
            taken_few = omega (arith, u.taken_few);
            long = u.long;
            wide = u.wide;
            searching = λ cs n rows lt most w ec.
                let s = rw (ek, add-one k) at (u.searching cs n rows lt most w ec) in
                rw (ef, et, er, ← (behind cs n rows most ec s), add-one turns)
                (search_pass root cs v m members q.found q.taken turns k s (idle_passed root m (copy_at cs k) (sym (said cs rows s.inside) ∙ j)));
            has = u.has;
          }
      looked_on {r} et er (Join.joins j em el ef) =
          rw (em, el) record {
            under = omega arith;
            found_few = omega (arith, u.found_few);
            taken_few = omega (arith, u.taken_few);
            long = length-set m (get_or table (row_at k) 0) true ∙ u.long;
            wide = length-set members q.found (get_or table (row_at k) 0) ∙ u.wide;
            searching = λ cs n rows lt most w ec.
                let s = rw (ek, add-one k) at (u.searching cs n rows lt most w ec) in
                let c = copy_at cs k in
                let a = joining_at root m c (sym (said cs rows s.inside) ∙ j) in
                let h : q.found < length members =
                omega (arith, s.counted, size_set m c.dest a.low a.new, size_le (set m c.dest true), length-set m c.dest true, u.long, u.wide, ap length ec, length-replicate n false) in
                rw (ef, et, er, ← (behind cs n rows most ec s), rows.dest k s.inside, add-one turns, add-one q.found)
                (search_join root cs v m members q.found q.taken turns k s a.asked a.new a.low h);
            has = λ n lt ec. (below_set m (get_or table (row_at k) 0)).each v (u.has n lt ec);
          }

    pub going_on : {r : Search} {m' : Marks} {members' : List ℕ} → is_open q ≡ true → Turn table root q r m m' members members'
        → Going table root v clear room r m' members' (turns + 1)
    going_on o (Turn.takes z ef et er em el) = taken_on o z ef et er em el
    going_on o (Turn.looks k ek et er j) = looked_on k ek et er j

  -- a search that is over
  module _ (w : ValueId) (ev : v ≡ w.0) (q : Search) (m : Marks) (members : List ℕ) (turns : ℕ) (u : Going table root v clear room q m members turns) where
    pub found_all : is_open q ≡ false → FindsFamily table root w clear m room members (record { members = q.found; turns = turns })
    unfolding turns_of
    found_all o τ is rows few er low most wide ec =
        let n = length τ.recorded in
        let cs = copies τ is in
        let low' : v < n = rw ev low in
        let s = rw (over_row q o).0 at (u.searching cs n rows low' most wide ec) in
        let start : Marks = set clear v true in
        let b : get_or start v false ≡ true = get_or-set_same clear v true false (rw (ec, length-replicate n false) low') in
        let d = search_done root cs v start m members q.found q.taken turns s (over_row q o).1
        (length-set clear v true ∙ sym u.long) b (only_one n ec) (u.has n low' ec) in
        let same : m ≡ family τ w is =
        d.same (length is) (copies_few τ is)
        ∙ ap (λ x. rounds root (length is) (set x v true) cs) ec
        ∙ ap (λ x. rounds root (length is) (set (replicate n false) x true) cs) ev
        ∙ ap (λ x. rounds x (length is) (mark (replicate n false) w) cs) er
        ∙ sym (family_copies τ w is) in
        record {
          same = same;
          turned = d.exact ∙ ap (λ x. size x + copied_from x cs (length cs)) same;
          listed = record { many = d.members; marked = s.listed; only = s.only };
        }
      where
        only_one : (n : ℕ) → clear ≡ replicate n false → (x : ℕ) → get_or (set clear v true) x false ≡ true → x ≡ v
        only_one n e x h = go (eqb x v) refl
          where
            go : (b : Bool) → eqb x v ≡ b → x ≡ v
            go true z = eqb-true x v z
            go false z = absurd (true≢false (sym h ∙ get_or-set_other clear v x true false (eqb-false x v z) ∙ ap (λ c. get_or c x false) e ∙ clear_at n x))

    -- no search takes as many turns
    pub never_late : most_turns < turns → (r : Found) → FindsFamily table root w clear m room members r
    never_late h r τ is rows few er low most wide ec =
        let n = length τ.recorded in
        let cs = copies τ is in
        let s = u.searching cs n rows (rw ev low) most wide ec in
        absurd (omega (arith, s.turned, s.order, s.counted, size_le m, copied_le s.t cs (length cs), u.long, ap length ec, length-replicate n false))
