-- The tables hold the states: what a look at them says, and what a new entry does.
use Prim.Native.Nat.{ℕ, zero, suc, ◌+◌, ◌≤◌, ◌<◌}
use mathlib.Core.Path.{◌≡◌, refl, ◌∙◌, sym}
use mathlib.Core.List.{List, [], ◌∷◌}
use mathlib.Core.Bool.{Bool, true, false}
use mathlib.Core.Option.{Option, none, some}
use native.Mathlib.Omega.{arith}
use borrow.Author.Tests.{eqb-true, eqb-false, ltb-true, ltb-false}
use lib.ListN.{length, get_or, get_elem?, set, take, drop, length-set, length-drop, get_or-eq_default}
use lib.Seq.{get_or-set_same, get_or-set_other, get_or-take, get_or-drop, length-take-le}
use lib.Dec.{eqb, ltb}
use Rattle.mir.specs.declared.Value.{Value}
use Rattle.mir.specs.declared.ValueId.{ValueId}
use Rattle.mir.specs.Lookup.{is_some, on_some}
use Rattle.fold.specs.Family.{Marks}
use Rattle.rewrite.specs.State.{AggStates, no_states, insert_state, replaced, cons_some}
use Rattle.table.proofs.Elements.{some_at, none_at}
use Rattle.rewrite_parts.specs.Rows.{RowAt, Entry, untracked, row, Rep, Room, There}
use Rattle.rewrite_parts.specs.Filled.{Grown, Filled}

-- what is known of a tracked value with the parts xs
pub record Held (next : ℕ) (s rows : List ℕ) (from used : ℕ) (xs : List Value) : Type 0 where
  pub behind : 256 ≤ from
  pub many : get_or rows from 0 ≡ length xs
  pub parts : RowAt next s rows (from + 1) xs
  pub below : from + 1 + length xs ≤ used
  pub most : length xs ≤ 16

-- an entry's mark is that of its state
entry_marked : {next : ℕ} {s rows : List ℕ} {from used : ℕ} {m : Bool} {o : Option (List Value)} → Entry next s rows from used m o → m ≡ is_some o
unfolding is_some
entry_marked untracked = refl
entry_marked (row xs f c r b m) = refl

-- the row of an entry
entry_held : {next : ℕ} {s rows : List ℕ} {from used : ℕ} {m : Bool} {o : Option (List Value)} {xs : List Value} → Entry next s rows from used m o → o ≡ some xs → Held next s rows from used xs
entry_held {xs} untracked e = absurd (let z : ◌≡◌ {A = ℕ} 0 1 = cc in omega arith)
entry_held {xs} (row ys f c r b m) e =
    let z : xs ≡ ys = cc in
    rw z (record { behind = f; many = c; parts = r; below = b; most = m })

-- a value is marked where it has a state
pub found_mark : {next : ℕ} {s : List ℕ} {tracked : Marks} {rows : List ℕ} {used : ℕ} {S : AggStates} → Rep next s tracked rows used S → (v : ℕ) → get_or tracked v false ≡ is_some (S v)
found_mark r v = entry_marked (r.entries v)

-- a tracked value has a row
pub found_row : {next : ℕ} {s : List ℕ} {tracked : Marks} {rows : List ℕ} {used : ℕ} {S : AggStates} {xs : List Value} → Rep next s tracked rows used S → (v : ℕ) → S v ≡ some xs → Held next s rows (get_or rows v 0) used xs
found_row r v e = entry_held (r.entries v) e

-- and its row is a slice of the table
pub row_stands : {next : ℕ} {s rows : List ℕ} {from used : ℕ} {xs : List Value} → Held next s rows from used xs → used ≤ length rows → (m : ℕ) → m ≡ length xs → RowAt next s (take m (drop (from + 1) rows)) 0 xs × (length xs ≡ length (take m (drop (from + 1) rows)))
row_stands {next} {s} {rows} {from} {used} {xs} h r m e =
    let l : m ≤ length (drop (from + 1) rows) = omega (arith, length-drop (from + 1) rows, h.below) in (
      record { each = λ k b. let z : 0 + k ≡ k = omega arith in rw (z, get_or-take m (drop (from + 1) rows) k 0 (omega arith), get_or-drop (from + 1) rows k 0) (h.parts.each k b) },
      sym (length-take-le m (drop (from + 1) rows) l ∙ e),
    )

-- part k of a value, by its mark and the places of its parts: it has none,
pub part_nowhere : (o : Option (List Value)) (k : ℕ) → is_some o ≡ false → on_some o (λ xs. get_elem? xs k) ≡ none
unfolding on_some is_some
part_nowhere none k e = refl
part_nowhere (some xs) k e = absurd (let z : ◌≡◌ {A = ℕ} 0 1 = cc in omega arith)

module _ {next : ℕ} {s places : List ℕ} (o : Option (List Value)) (k : ℕ) (f : (xs : List Value) → o ≡ some xs → RowAt next s places 0 xs × (length xs ≡ length places)) where
  -- or fewer,
  pub part_past : length places ≤ k → on_some o (λ xs. get_elem? xs k) ≡ none
  unfolding on_some
  part_past h = go o refl
    where
      go : (p : Option (List Value)) → o ≡ p → on_some p (λ xs. get_elem? xs k) ≡ none
      go none e = refl
      go (some xs) e = none_at xs k (omega (arith, (f xs e).1))

  -- or it stands there
  pub part_there : is_some o ≡ true → k < length places → There next s (on_some o (λ xs. get_elem? xs k)) (get_or places k 0)
  unfolding on_some is_some
  part_there m h = go o refl
    where
      go : (p : Option (List Value)) → o ≡ p → There next s (on_some p (λ xs. get_elem? xs k)) (get_or places k 0)
      go none e = absurd (let y = rw e at m in let z : ◌≡◌ {A = ℕ} 0 1 = cc in omega arith)
      go (some xs) e =
          let l : k < length xs = omega (arith, (f xs e).1) in
          let z : 0 + k ≡ k = omega arith in
          record { value = get_or xs k Value.Error; is = some_at xs k Value.Error l; stands = rw z at ((f xs e).0.each k l) }

-- nothing moves among the rows
abbrev Still : List ℕ → ℕ → List ℕ → Type 0
Still rows used rows' = (j : ℕ) → 256 ≤ j → j < used → get_or rows' j 0 ≡ get_or rows j 0

-- then a row stays
row_old : {next : ℕ} {s rows rows' : List ℕ} {from used : ℕ} {xs : List Value} → Still rows used rows' → 256 ≤ from → from + length xs ≤ used → RowAt next s rows from xs → RowAt next s rows' from xs
row_old {next} {s} {rows} {rows'} {from} {used} {xs} g f b r =
    record { each = λ k h. let e : get_or rows' (from + k) 0 ≡ get_or rows (from + k) 0 = g (from + k) (omega arith) (omega arith) in rw e (r.each k h) }

-- and so does an entry, if its row begins where it began
entry_old : {next : ℕ} {s rows rows' : List ℕ} {from from' used used' : ℕ} {m : Bool} {o : Option (List Value)} → Still rows used rows' → used ≤ used' → (m ≡ true → from' ≡ from) → Entry next s rows from used m o → Entry next s rows' from' used' m o
entry_old g h w untracked = untracked
entry_old {from} g h w (row xs f c r b m) = rw (w refl) (row xs f (g from f (omega arith) ∙ c) (row_old g (omega arith) b r) (omega arith) m)

module _ {next : ℕ} {s : List ℕ} {tracked : Marks} {rows : List ℕ} {used : ℕ} {S : AggStates} (r : Rep next s tracked rows used S) where
  -- a marked value is one of the first 256
  marked_below : (v : ℕ) → get_or tracked v false ≡ true → v < 256
  marked_below v e = go (ltb v (length tracked)) refl
    where
      go : (b : Bool) → ltb v (length tracked) ≡ b → v < 256
      go true z = let l : v < length tracked = ltb-true v (length tracked) z in omega (arith, r.marks)
      go false z = absurd (let y : false ≡ true = sym (get_or-eq_default tracked false {n = v} (ltb-false v (length tracked) z)) ∙ e in let u : ◌≡◌ {A = ℕ} 0 1 = cc in omega arith)

  -- the states stay where rows are written behind the others
  pub rep_old : {rows' : List ℕ} → Grown rows used rows' → Rep next s tracked rows' used S
  rep_old {rows'} g =
      record {
        entries = λ v. entry_old (λ j l m. g.old j m) (omega arith) (λ e. let l = marked_below v e in g.old v (omega (arith, r.behind))) (r.entries v);
        room = omega (arith, r.room, g.size);
        behind = r.behind;
        marks = r.marks;
        short = r.short;
      }

  -- a new entry for d: where its row stands, the parts are its state
  rep_put : {rows' : List ℕ} {used' : ℕ} {xs : List Value} (from : ℕ) (d : ValueId) → Grown rows used rows' → d.0 < 256 → used ≤ used' → used' ≤ length rows → Held next s rows' from used' xs
      → Rep next s (set tracked d.0 true) (set rows' d.0 from) used' (insert_state S d xs)
  unfolding insert_state
  rep_put {rows'} {used'} {xs} from d g hd hu hp h =
      record {
        entries = λ v. one v (eqb v d.0) refl;
        room = omega (arith, g.size, length-set rows' d.0 from);
        behind = omega (arith, r.behind);
        marks = length-set tracked d.0 true ∙ r.marks;
        short = r.short;
      }
    where
      still : {u : ℕ} → Still rows' u (set rows' d.0 from)
      still j l m = get_or-set_other rows' d.0 j from 0 (λ e. omega arith)

      one : (v : ℕ) (b : Bool) → eqb v d.0 ≡ b → Entry next s (set rows' d.0 from) (get_or (set rows' d.0 from) v 0) used' (get_or (set tracked d.0 true) v false) (insert_state S d xs v)
      one v true e =
          let z : v ≡ d.0 = eqb-true v d.0 e in
          rw (e, z, get_or-set_same tracked d.0 true false (omega (arith, r.marks)), get_or-set_same rows' d.0 from 0 (omega (arith, r.behind, r.room, g.size)))
          (entry_old {used = used'} still (omega arith) (λ q. refl) (row xs h.behind h.many h.parts h.below h.most))
      one v false e =
          let z : (v ≡ d.0 → ⊥) = eqb-false v d.0 e in
          rw (e, get_or-set_other tracked d.0 v true false z)
          (entry_old (λ j l m. still {u = used} j l m ∙ g.old j m) hu (λ q. let l = marked_below v q in get_or-set_other rows' d.0 v from 0 z ∙ g.old v (omega (arith, r.behind))) (r.entries v))

  -- d takes the row of v
  pub rep_share : {xs : List Value} (d v : ValueId) → S v.0 ≡ some xs → d.0 < 256 → Rep next s (set tracked d.0 true) (set rows d.0 (get_or rows v.0 0)) used (insert_state S d xs)
  rep_share d v e h = rep_put (get_or rows v.0 0) d (record { size = refl; old = λ j l. refl }) h (omega arith) r.room (found_row r v.0 e)

  -- d has a new row, written behind the others: the number of its parts, then their places
  pub rep_track : {rows' : List ℕ} (xs : List Value) (n : ℕ) (d : ValueId) → Room rows used → d.0 < 256 → Grown rows used rows' → length xs ≡ n → n ≤ 16 → get_or rows' used 0 ≡ n → Filled next s rows' (used + 1) xs n
      → Rep next s (set tracked d.0 true) (set rows' d.0 used) (used + 1 + n) (insert_state S d xs)
  rep_track xs n d q h g l m c f =
      rep_put used d g h (omega arith) (omega (arith, q))
      (record { behind = r.behind; many = c ∙ sym l; parts = record { each = λ k p. f.each k (omega arith) }; below = omega arith; most = omega arith })

-- nothing is tracked where no mark stands
pub rep_clear : {next : ℕ} {s : List ℕ} {tracked : Marks} {rows : List ℕ} {used : ℕ} → ((v : ℕ) → get_or tracked v false ≡ false) → used ≤ length rows → 256 ≤ used → length tracked ≡ 256 → length s < 65536 → Rep next s tracked rows used no_states
unfolding no_states
rep_clear z h b m l = record { entries = λ v. rw (z v) untracked; room = h; behind = b; marks = m; short = l }

-- part k replaced, where there is such a part
pub replaced_set : (xs : List Value) (k : ℕ) (y : Value) → k < length xs → replaced xs k y ≡ some (set xs k y)
unfolding replaced cons_some
replaced_set [] k y h = absurd (omega arith)
replaced_set (x ∷ xs) zero y h = refl
replaced_set (x ∷ xs) (suc k) y h = rw (replaced_set xs k y (omega arith))

-- there is none past their number
pub replaced_past : (xs : List Value) (k : ℕ) (y : Value) → length xs ≤ k → replaced xs k y ≡ none
unfolding replaced cons_some
replaced_past [] k y h = refl
replaced_past (x ∷ xs) zero y h = absurd (omega arith)
replaced_past (x ∷ xs) (suc k) y h = rw (replaced_past xs k y (omega arith))

-- so there is such a part where one is replaced
pub replaced_below : (xs : List Value) (k : ℕ) (y : Value) {ys : List Value} → replaced xs k y ≡ some ys → k < length xs
replaced_below xs k y {ys} e = go (ltb k (length xs)) refl
  where
    go : (b : Bool) → ltb k (length xs) ≡ b → k < length xs
    go true z = ltb-true k (length xs) z
    go false z = absurd (let w : none ≡ some ys = sym (replaced_past xs k y (ltb-false k (length xs) z)) ∙ e in let u : ◌≡◌ {A = ℕ} 0 1 = cc in omega arith)
