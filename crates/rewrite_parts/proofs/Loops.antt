-- The loops that write rows.
use Prim.Native.Nat.{ℕ, zero, suc, ◌+◌, ◌*◌, ◌%◌, ◌≤◌, ◌<◌, zero-le}
use mathlib.Core.Path.{◌≡◌, refl, ap, ◌∙◌, sym}
use mathlib.Core.Logic.{⊎_elim}
use mathlib.Core.Bool.{Bool, true, false}
use mathlib.Core.List.{List}
use mathlib.Core.Option.{some}
use native.Mathlib.Nat.{add-zero, add_assoc, eq-or-lt_of_le, mod-eq_of_lt}
use native.Mathlib.Omega.{arith}
use borrow.Author.Tests.{eqb-true, eqb-false}
use lib.ListN.{length, get_or, set, drop, length-set, length-drop}
use lib.Seq.{get_or-set_same, get_or-set_other}
use lib.Dec.{eqb}
use Rattle.bytes_wire.specs.Value.{value_of, value_kinds}
use Rattle.mir.specs.declared.Value.{Value}
use Rattle.mir.specs.declared.ValueId.{ValueId}
use Rattle.bytes_wire.proofs.Inv.{tagged_inv}
use Rattle.bytes_operands.specs.Fields.{after, value_end, value_step}
use Rattle.fold.specs.Family.{Marks}
use Rattle.rewrite.specs.State.{AggStates, insert_state, replaced}
use Rattle.rewrite_parts.specs.Rows.{ValueAt, stands, Rep, Room, item_offset, Values}
use Rattle.rewrite_parts.specs.Filled.{Grown, Filled}
use Rattle.rewrite_parts.proofs.Tables.{Held, found_row, rep_track, replaced_set}

-- what holds below i and of i, holds below i + 1
pub one_more : (P : ℕ → Type 0) (i : ℕ) → ((j : ℕ) → j < i → P j) → P i → (j : ℕ) → j < i + 1 → P j
one_more P i f p j h = let l : j ≤ i = omega arith in ⊎_elim (λ e. rw e p) (λ q. f j q) (eq-or-lt_of_le l)

-- a table that nothing was written to
pub grown_none : (rows : List ℕ) (to : ℕ) → Grown rows to rows
grown_none rows to = record { size = refl; old = λ j h. refl }

-- one more place
pub grown_more : {rows rows' : List ℕ} {to : ℕ} (i place : ℕ) → Grown rows to rows' → to ≤ i → Grown rows to (set rows' i place)
grown_more {rows} {rows'} {to} i place g h =
    record {
      size = length-set rows' i place ∙ g.size;
      old = λ j l. get_or-set_other rows' i j place 0 (λ e. omega arith) ∙ g.old j l;
    }

-- a row's number is written, and behind it its places: nothing moves below the row
pub grown_row : (rows : List ℕ) {rows₁ rows' : List ℕ} (to n : ℕ) → rows₁ ≡ set rows to n → Grown rows₁ (to + 1) rows' → Grown rows to rows'
grown_row rows {rows₁} {rows'} to n e g =
    record {
      size = g.size ∙ ap length e ∙ length-set rows to n;
      old = λ j l. g.old j (omega arith) ∙ ap (λ p. get_or p j 0) e ∙ get_or-set_other rows to j n 0 (λ z. omega arith);
    }

-- and the number stays
pub row_number : (rows : List ℕ) {rows₁ rows' : List ℕ} (to n : ℕ) → to < length rows → rows₁ ≡ set rows to n → Grown rows₁ (to + 1) rows' → get_or rows' to 0 ≡ n
row_number rows {rows₁} {rows'} to n h e g = g.old to (omega arith) ∙ ap (λ p. get_or p to 0) e ∙ get_or-set_same rows to n 0 h

-- a value's place is one of the bytes: its lowest 16 bits are all of it
pub place_low : {next : ℕ} {s : List ℕ} {place : ℕ} {x : Value} → length s < 65536 → ValueAt next s place x → place % 65536 ≡ place
unfolding value_of
place_low {next} {s} {place} h (stands n e) =
    mod-eq_of_lt (let l = (tagged_inv (value_kinds next) (drop place s) e).0 in omega (arith, length-drop place s))

-- the place of one more value
pub filled_more : {next : ℕ} {s rows : List ℕ} {to : ℕ} {xs : List Value} {i : ℕ} (place : ℕ) → length s < 65536 → Filled next s rows to xs i → to + i < length rows → ValueAt next s place (get_or xs i Value.Error) → Filled next s (set rows (to + i) (place % 65536)) to xs (i + 1)
filled_more {next} {s} {rows} {to} {xs} {i} place short f h v =
    record {
      each =
          rw (place_low short v)
          (one_more (λ j. ValueAt next s (get_or (set rows (to + i) place) (to + j) 0) (get_or xs j Value.Error)) i
          (λ j l. rw (get_or-set_other rows (to + i) (to + j) place 0 (λ e. omega arith)) (f.each j l))
          (rw (get_or-set_same rows (to + i) place 0 h) v));
    }

-- the place of the next thing is behind the one before
after_end : (end : ℕ → ℕ) (k at : ℕ) → after end (k + 1) at ≡ end (after end k at)
unfolding after
after_end end zero at = refl
after_end end (suc k) at = let z : suc k + 1 ≡ suc (k + 1) = omega arith in rw z (after_end end k (end at))

pub place_more : (s : List ℕ) (before at i here there : ℕ) → here ≡ item_offset s before at i → there ≡ value_end s (here + before) → there ≡ item_offset s before at (i + 1)
place_more s before at i here there e f =
    let z : there ≡ value_step s before 0 here = omega arith in
    z ∙ ap (value_step s before 0) e ∙ sym (after_end (value_step s before 0) i at)

-- the places of i of n values are written
pub record Laying (s : List ℕ) (before n at : ℕ) (rows₀ : List ℕ) (to : ℕ) (rows : List ℕ) (here i : ℕ) : Type 0 where
  pub under : i ≤ n
  pub near : here ≤ at + 300 * i
  pub place : here ≡ item_offset s before at i
  pub grown : Grown rows₀ to rows
  pub filled : (next : ℕ) (xs : List Value) → Values next s before at xs → length xs ≡ n → length s < 65536 → to + n ≤ length rows₀ → Filled next s rows to xs i

-- none yet
pub laying : (s : List ℕ) (before n at : ℕ) (rows : List ℕ) (to : ℕ) → Laying s before n at rows to rows at 0
unfolding after
laying s before n at rows to =
    record {
      under = zero-le;
      near = omega arith;
      place = refl;
      grown = grown_none rows to;
      filled = λ next xs v l short r. record { each = λ j h. absurd (omega arith) };
    }

-- one more
pub laid_more : {s : List ℕ} {before n at : ℕ} {rows₀ : List ℕ} {to : ℕ} {rows : List ℕ} {here i : ℕ} {rows' : List ℕ} {there : ℕ} → Laying s before n at rows₀ to rows here i → i < n → before < 256 → rows' ≡ set rows (to + i) ((here + before) % 65536) → there ≡ value_end s (here + before) → there ≤ here + before + 5 → Laying s before n at rows₀ to rows' there (i + 1)
laid_more {s} {before} {n} {at} {rows₀} {to} {rows} {here} {i} {rows'} {there} o h b e f near =
    record {
      under = omega arith;
      near = omega (arith, o.near);
      place = place_more s before at i here there o.place f;
      grown = rw e (grown_more (to + i) ((here + before) % 65536) o.grown (omega arith));
      filled = λ next xs v l short r.
          rw e (filled_more (here + before) short (o.filled next xs v l short r) (omega (arith, o.grown.size)) (rw o.place (v.each i (omega arith))));
    }

-- i of n places are copied
pub record Copying (rows₀ : List ℕ) (from to n : ℕ) (rows : List ℕ) (i : ℕ) : Type 0 where
  pub under : i ≤ n
  pub grown : Grown rows₀ to rows
  pub done : from + n ≤ to → to + n ≤ length rows₀ → (j : ℕ) → j < i → get_or rows (to + j) 0 ≡ get_or rows₀ (from + j) 0

-- none yet
pub copying : (rows : List ℕ) (from to n : ℕ) → Copying rows from to n rows 0
copying rows from to n = record { under = zero-le; grown = grown_none rows to; done = λ p q j h. absurd (omega arith) }

-- one more
pub copied_more : {rows₀ : List ℕ} {from to n : ℕ} {rows : List ℕ} {i : ℕ} {rows' : List ℕ} {place : ℕ} → Copying rows₀ from to n rows i → i < n → place ≡ get_or rows (from + i) 0 → rows' ≡ set rows (to + i) place → Copying rows₀ from to n rows' (i + 1)
copied_more {rows₀} {from} {to} {n} {rows} {i} {rows'} {place} o h f e =
    record {
      under = omega arith;
      grown = rw e (grown_more (to + i) place o.grown (omega arith));
      done = λ p q.
          rw e
          (one_more (λ j. get_or (set rows (to + i) place) (to + j) 0 ≡ get_or rows₀ (from + j) 0) i
          (λ j l. get_or-set_other rows (to + i) (to + j) place 0 (λ z. omega arith) ∙ o.done p q j l)
          (get_or-set_same rows (to + i) place 0 (omega (arith, o.grown.size)) ∙ f ∙ o.grown.old (from + i) (omega arith)));
    }

-- d has a copy of the row of v, with part k at another place
pub rep_replace : {next : ℕ} {s : List ℕ} {tracked : Marks} {rows rows' : List ℕ} {used : ℕ} {S : AggStates} {xs ys : List Value} {y : Value} (d v : ValueId) (k n place : ℕ)
    → Rep next s tracked rows used S → Room rows used → d.0 < 256 → S v.0 ≡ some xs → replaced xs k y ≡ some ys → ValueAt next s place y → length xs ≡ n
    → Grown rows used rows' → ((j : ℕ) → j < n + 1 → get_or rows' (used + j) 0 ≡ get_or rows (get_or rows v.0 0 + j) 0)
    → k < n → Rep next s (set tracked d.0 true) (set (set rows' (used + 1 + k) (place % 65536)) d.0 used) (used + 1 + n) (insert_state S d ys)
rep_replace {next} {s} {tracked} {rows} {rows'} {used} {S} {xs} {ys} {y} d v k n place r q b e f w l g c h =
    let lk : k < length xs = omega arith in
    let ey : ys ≡ set xs k y = (let z : some ys ≡ some (set xs k y) = sym f ∙ replaced_set xs k y lk in cc) in
    let ly : length ys ≡ n = ap length ey ∙ length-set xs k y ∙ l in
    rw (place_low r.short w)
    (rep_track r ys n d q b (grown_more (used + 1 + k) place g (omega arith)) ly (omega (arith, held.most)) number
    (record { each = λ j m. rw ey (part j m (eqb j k) refl) }))
  where
    held : Held next s rows (get_or rows v.0 0) used xs
    held = found_row r v.0 e

    number : get_or (set rows' (used + 1 + k) place) used 0 ≡ n
    number = get_or-set_other rows' (used + 1 + k) used place 0 (λ o. omega arith) ∙ rw (add-zero used, add-zero (get_or rows v.0 0)) at (c 0 (omega arith)) ∙ held.many ∙ l

    copied : (j : ℕ) → j < n → get_or rows' (used + 1 + j) 0 ≡ get_or rows (get_or rows v.0 0 + 1 + j) 0
    copied j m = rw (add_assoc used 1 j, add_assoc (get_or rows v.0 0) 1 j) (c (1 + j) (omega arith))

    part : (j : ℕ) → j < n → (b : Bool) → eqb j k ≡ b → ValueAt next s (get_or (set rows' (used + 1 + k) place) (used + 1 + j) 0) (get_or (set xs k y) j Value.Error)
    part j m true z =
        let p : j ≡ k = eqb-true j k z in
        rw (p, get_or-set_same rows' (used + 1 + k) place 0 (omega (arith, q, held.most, g.size)), get_or-set_same xs k y Value.Error (omega arith)) w
    part j m false z =
        let p : (j ≡ k → ⊥) = eqb-false j k z in
        rw (get_or-set_other rows' (used + 1 + k) (used + 1 + j) place 0 (λ o. p (omega arith)), copied j m, get_or-set_other xs k j y Value.Error p) (held.parts.each j (omega arith))
