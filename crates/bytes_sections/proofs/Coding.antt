-- The blocks, one after another.
use Prim.Native.Nat.{ℕ, zero, suc, ◌+◌, ◌-◌, ◌*◌, ◌%◌, ◌≤◌, ◌<◌, zero-le}
use mathlib.Core.Path.{◌≡◌, refl, ap, ◌∙◌, sym}
use mathlib.Core.List.{List, [], ◌∷◌, ◌++◌, append_assoc, append-nil}
use mathlib.Core.Bool.{Bool}
use mathlib.Core.Logic.{⊎_elim}
use native.Mathlib.Nat.{add-zero, sub-zero, eq-or-lt_of_le, mod-eq_of_lt}
use native.Mathlib.Omega.{arith}
use lib.ListN.{length, get_or, drop, set, length-append, length-drop, length-set, get_or-append}
use lib.Seq.{drop-drop, get_or-drop, get_or_at, get_or-set_same, get_or-set_other}
use Rattle.std.specs.Prelude.{Result, Ok}
use Rattle.bytes_wire.specs.declared.Refusal.{Refusal}
use Rattle.bytes_wire.specs.Parse.{Parse, ok, bad, later, and_then, map_parse}
use Rattle.bytes_wire.specs.declared.Cause.{Cause}
use Rattle.bytes_wire.proofs.Laws.{Passed, size, size_map, size_and, map_id, map_later, map_map, later_later}
use Rattle.bytes_wire.proofs.Inv.{no_ok, both, behind, image, later_inv, and_inv, map_inv, map_bad}
use Rattle.mir.specs.Syntax.{Block}
use Rattle.bytes_field.specs.Walk.{as_part, unit}
use Rattle.bytes_field.specs.declared.Bounds.{Bounds}
use Rattle.bytes_index.specs.Table.{blocks_in, starts_in}
use Rattle.bytes_index.specs.Code.{BlockIn, CodeIn}
use Rattle.bytes_block.specs.Decode.{passed, block_marks, block_of, as_block}
use Rattle.bytes_block.specs.Rows.{Kept, Tabular, Filled, CodeRead}
use Rattle.bytes_block.specs.declared.Mosts.{Mosts}
use Rattle.bytes_block.specs.declared.BlockEnd.{BlockEnd}
use Rattle.bytes_block.proofs.Sizes.{size_block}
use Rattle.bytes_block.proofs.Blocks.{block_count}
use Rattle.bytes_block.proofs.Rows.{block_same}
use Rattle.bytes_block.proofs.Filling.{kept_through, kept_set, kept_all}
use Rattle.bytes_types.proofs.Table.{each_more}
use Rattle.bytes_sections.specs.Decode.{mosts, blocks_of}
use Rattle.bytes_sections.specs.Index.{no_block, BlockAt, standing, BlocksAt, BlocksRead}
use Rattle.bytes_sections.proofs.Laws.{no_value}

-- the blocks behind a place, and the instructions in them, as the table has them
pub record Placed (b : Bounds) (s facts : List ℕ) (here total : ℕ) (xs : List Block) : Type 0 where
  pub place : get_or (blocks_in facts) (length xs) 0 ≡ here
  pub slot : get_or (starts_in facts) (length xs) 0 ≡ total + length xs
  pub low : (j : ℕ) → j ≤ length xs → get_or (starts_in facts) j 0 ≤ total + length xs
  pub blocks : BlocksAt mosts b s (blocks_in facts) xs
  pub code : CodeIn b s facts xs

-- no block, whose place is stored
pub none_placed : (b : Bounds) (s entry facts : List ℕ) (at : ℕ) → Tabular b s → at ≤ length s → 387 ≤ length entry → facts ≡ set (set entry 321 (at % 65536)) 354 0 → Placed b s facts at 0 []
none_placed b s entry facts at t h l e =
    let one = set entry 321 (at % 65536) in
    let p : get_or (blocks_in facts) 0 0 ≡ at =
    ap (λ y. get_or (drop 321 y) 0 0) e ∙ get_or-drop 321 (set one 354 0) 0 0 ∙ get_or-set_other one 354 321 0 0 (λ q. omega arith) ∙ get_or-set_same entry 321 (at % 65536) 0 (omega arith) ∙ mod-eq_of_lt (omega (arith, t.short)) in
    let q : get_or (starts_in facts) 0 0 ≡ 0 = ap (λ y. get_or (drop 354 y) 0 0) e ∙ get_or-drop 354 (set one 354 0) 0 0 ∙ get_or-set_same one 354 0 0 (omega (arith, length-set entry 321 (at % 65536))) in
    record {
      place = p;
      slot = q;
      low = λ j g. let z : j ≡ 0 = omega arith in rw (z, q) (omega arith);
      blocks = record {
        each = λ k g. absurd (omega arith);
        rises = λ k g. absurd (omega arith);
        within = λ k g. let z : k ≡ 0 = omega arith in rw (z, p) h;
      };
      code = record { each = λ k g. absurd (omega arith); next = λ k g. absurd (omega arith); first = q; within = rw q (omega arith) };
    }

-- one more block: its rows are filled behind the others', then its end and the slot behind it are stored
module _ (b : Bounds) (s facts middle facts' : List ℕ) (xs : List Block) (x : Block) (here n total : ℕ) (seen : List Bool)
    (t : Tabular b s) (long : 6147 ≤ length facts) (many : length xs < 32) (few : total + length x.instructions ≤ 256)
    (a : Placed b s facts here total xs) (f : Filled b s (total + length xs) (suc (length x.instructions)) facts middle
    (BlockIn b s middle (total + length xs) x)) (e : block_of mosts b total seen (drop here s) ≡ ok x n) (in_s : here + n ≤ length s)
    (stored : facts' ≡ set (set middle (321 + (length xs + 1)) ((here + n) % 65536)) (354 + (length xs + 1)) (total + length
    x.instructions + (length xs + 1))) where
  abbrev k : ℕ
  k = length xs

  abbrev count : ℕ
  count = length x.instructions

  abbrev one : List ℕ
  one = set middle (321 + (k + 1)) ((here + n) % 65536)

  -- all but the two numbers is as the block left it
  other : (j : ℕ) → (j ≡ 321 + (k + 1) → ⊥) → (j ≡ 354 + (k + 1) → ⊥) → get_or facts' j 0 ≡ get_or middle j 0
  other j p q = ap (λ y. get_or y j 0) stored ∙ get_or-set_other one (354 + (k + 1)) j (total + count + (k + 1)) 0 q ∙ get_or-set_other middle (321 + (k + 1)) j ((here + n) % 65536) 0 p

  -- and in front of its rows as it was
  old : (j : ℕ) → j < 387 + 20 * (total + k) → (j ≡ 321 + (k + 1) → ⊥) → (j ≡ 354 + (k + 1) → ⊥) → get_or facts' j 0 ≡ get_or facts j 0
  old j l p q = other j p q ∙ f.kept.same j l

  old_place : (j : ℕ) → j ≤ k → get_or (blocks_in facts') j 0 ≡ get_or (blocks_in facts) j 0
  old_place j l = get_or-drop 321 facts' j 0 ∙ old (321 + j) (omega arith) (λ q. omega arith) (λ q. omega arith) ∙ sym (get_or-drop 321 facts j 0)

  old_slot : (j : ℕ) → j ≤ k → get_or (starts_in facts') j 0 ≡ get_or (starts_in facts) j 0
  old_slot j l = get_or-drop 354 facts' j 0 ∙ old (354 + j) (omega arith) (λ q. omega arith) (λ q. omega arith) ∙ sym (get_or-drop 354 facts j 0)

  new_place : get_or (blocks_in facts') (suc k) 0 ≡ here + n
  new_place =
      let z : 321 + suc k ≡ 321 + (k + 1) = omega arith in
      get_or-drop 321 facts' (suc k) 0 ∙ ap (λ y. get_or y (321 + suc k) 0) stored ∙ get_or-set_other one (354 + (k + 1)) (321 + suc k) (total + count + (k + 1)) 0 (λ q. omega arith)
      ∙ ap (λ j. get_or one j 0) z ∙ get_or-set_same middle (321 + (k + 1)) ((here + n) % 65536) 0 (omega (arith, f.kept.long)) ∙ mod-eq_of_lt (omega (arith, t.short))

  new_slot : get_or (starts_in facts') (suc k) 0 ≡ total + count + (k + 1)
  new_slot =
      let z : 354 + suc k ≡ 354 + (k + 1) = omega arith in
      get_or-drop 354 facts' (suc k) 0 ∙ ap (λ y. get_or y (354 + suc k) 0) stored ∙ ap (λ j. get_or (set one (354 + (k + 1)) (total + count + (k + 1))) j 0) z
      ∙ get_or-set_same one (354 + (k + 1)) (total + count + (k + 1)) 0 (omega (arith, f.kept.long, length-set middle (321 + (k + 1)) ((here + n) % 65536)))

  -- a fact of all of them
  either : (P : ℕ → Type 0) → ((j : ℕ) → j ≤ k → P j) → P (suc k) → (j : ℕ) → j ≤ length (xs ++ (x ∷ [])) → P j
  either P g h j l = let y : j ≤ suc k = omega (arith, length-append xs (x ∷ [])) in ⊎_elim (λ q. rw q h) (λ q. g j (omega arith)) (eq-or-lt_of_le y)

  blocks_more : BlocksAt mosts b s (blocks_in facts') (xs ++ (x ∷ []))
  blocks_more =
      record {
        each =
            each_more xs x k refl (λ j. BlockAt mosts b s (get_or (blocks_in facts') j 0) (get_or (blocks_in facts') (suc j) 0) (get_or (xs ++ (x ∷ [])) j no_block))
            (λ j h. rw (old_place j (omega arith), old_place (suc j) (omega arith), get_or-append xs (x ∷ []) no_block j h) (a.blocks.each j h))
            (let z : here + n - here ≡ n = omega arith in rw (old_place k (omega arith), new_place, a.place, get_or_at xs x [] no_block k refl) (standing total seen (rw z e)));
        rises =
            each_more xs x k refl (λ j. get_or (blocks_in facts') j 0 ≤ get_or (blocks_in facts') (suc j) 0)
            (λ j h. rw (old_place j (omega arith), old_place (suc j) (omega arith)) (a.blocks.rises j h))
            (omega (arith, old_place k (omega arith), new_place, a.place));
        within = either (λ j. get_or (blocks_in facts') j 0 ≤ length s) (λ j h. rw (old_place j h) (a.blocks.within j h)) (rw new_place in_s);
      }

  code_more : CodeIn b s facts' (xs ++ (x ∷ []))
  code_more =
      record {
        each =
            each_more xs x k refl (λ j. BlockIn b s facts' (get_or (starts_in facts') j 0) (get_or (xs ++ (x ∷ [])) j no_block))
            (λ j h. rw (old_slot j (omega arith), get_or-append xs (x ∷ []) no_block j h)
            (block_same b s facts facts' t (get_or (starts_in facts) j 0) (get_or xs j no_block) (λ i p q. old i (omega (arith, a.code.next j h, a.low (suc j) (omega arith))) (λ y. omega arith) (λ y. omega arith)) (a.code.each j h)))
            (rw (old_slot k (omega arith), a.slot, get_or_at xs x [] no_block k refl) (block_same b s middle facts' t (total + k) x (λ i p q. other i (λ y. omega arith) (λ y. omega arith)) (f.rows t (omega arith))));
        next =
            each_more xs x k refl (λ j. get_or (starts_in facts') (suc j) 0 ≡ get_or (starts_in facts') j 0 + suc (length (get_or (xs ++ (x ∷ [])) j no_block).instructions))
            (λ j h. rw (old_slot j (omega arith), old_slot (suc j) (omega arith), get_or-append xs (x ∷ []) no_block j h) (a.code.next j h))
            (rw (get_or_at xs x [] no_block k refl) (omega (arith, new_slot, old_slot k (omega arith), a.slot)));
        first = old_slot 0 (omega arith) ∙ a.code.first;
        within = let z : length (xs ++ (x ∷ [])) ≡ suc k = omega (arith, length-append xs (x ∷ [])) in rw (z, new_slot) (omega arith);
      }

  pub placed_more : Placed b s facts' (here + n) (total + count) (xs ++ (x ∷ []))
  placed_more =
      let z : length (xs ++ (x ∷ [])) ≡ suc k = omega (arith, length-append xs (x ∷ [])) in
      record {
        place = rw z new_place;
        slot = rw (z, new_slot) (omega arith);
        low = either (λ j. get_or (starts_in facts') j 0 ≤ total + count + length (xs ++ (x ∷ []))) (λ j h. omega (arith, old_slot j h, a.low j h, length-append xs (x ∷ []))) (omega (arith, new_slot, length-append xs (x ∷ [])));
        blocks = blocks_more;
        code = code_more;
      }

-- no such answer reaches further than the bytes do
pub size_blocks : (m : Mosts) (b : Bounds) (total : ℕ) (seen : List Bool) (k : ℕ) (s : List ℕ) → size (blocks_of m b total seen k s) ≤ length s
unfolding blocks_of
size_blocks m b total seen zero s = zero-le
size_blocks m b total seen (suc k) s = size_and s (block_of m b total seen s) _ (size_block m b total seen s) (λ x t. rw size_map (size_blocks m b (total + length x.instructions) (block_marks seen x.instructions) k t))

-- k blocks are k
pub blocks_length : (m : Mosts) (b : Bounds) (total : ℕ) (seen : List Bool) (k : ℕ) (s : List ℕ) {xs : List Block} {n : ℕ} → blocks_of m b total seen k s ≡ ok xs n → length xs ≡ k
unfolding blocks_of
blocks_length m b total seen zero s {xs} e = let p : [] ≡ xs = cc in sym (ap length p)
blocks_length m b total seen (suc k) s e =
    elim (and_inv s (block_of m b total seen s) _ e) [
      | both x i j p q r ↦
          elim (map_inv (λ xs. x ∷ xs) (blocks_of m b (total + length x.instructions) (block_marks seen x.instructions) k (drop i s)) q) [
            | image ys f g ↦ ap length g ∙ ap suc (blocks_length m b (total + length x.instructions) (block_marks seen x.instructions) k (drop i s) f)
          ]
    ]

-- where the first of several is refused, all are
first_bad : {A B C : Type 0} (n : ℕ) (d : Parse A) (f : A → List ℕ → Parse B) (g : B → C) (s : List ℕ) {c : Cause} {o : ℕ} → later n d ≡ bad c o → map_parse unit (later n (map_parse g (and_then s d f))) ≡ bad c o
first_bad n (ok a m) f g s e = absurd (no_ok (sym e))
first_bad n (bad x m) f g s {c} {o} e = let p : x ≡ c = cc in let q : n + m ≡ o = cc in rw (p, q)

-- of the blocks k are behind, and stand in the table
pub record Coding (b : Bounds) (at : ℕ) (s : List ℕ) (clear : List Bool) (before facts : List ℕ) (k here total : ℕ) (seen : List Bool) : Type 0 where
  pub under : k ≤ b.blocks
  pub in_s : here ≤ length s
  pub few : total ≤ 256
  pub long : 6147 ≤ length before
  pub behind_it_lem : List Block
  pub count : length behind_it_lem ≡ k
  pub kept : Kept 321 before facts
  pub placed : Tabular b s → Placed b s facts here total behind_it_lem
  pub left : later at (blocks_of mosts b 0 clear b.blocks (drop at s)) ≡ later here (map_parse (λ xs. behind_it_lem ++ xs) (blocks_of mosts b total seen (b.blocks - k) (drop here s)))

-- none is behind yet: the place of the first and its slot are stored
module _ (b : Bounds) (at : ℕ) (s : List ℕ) (entry one facts : List ℕ) (p : one ≡ set entry 321 (at % 65536)) (q : facts ≡ set one 354 0) where
  pub start_kept : Kept 321 entry facts
  start_kept = rw (q, p) (kept_set 321 354 0 (omega arith) (kept_set 321 321 (at % 65536) (omega arith) (kept_all 321 entry)))

  pub coding_start : (clear : List Bool) → (at ≤ length s) × (b.blocks ≤ 32) × (6147 ≤ length entry) → Coding b at s clear facts facts 0 at 0 clear
  coding_start clear h =
      record {
        under = zero-le;
        in_s = h.0;
        few = zero-le;
        long = omega (arith, start_kept.long);
        behind_it_lem = [];
        count = refl;
        kept = kept_all 321 facts;
        placed = λ t. none_placed b s entry facts at t h.0 (omega arith) (q ∙ ap (λ y. set y 354 0) p);
        left = simp (map_id, sub-zero);
      }

module _ (b : Bounds) (at : ℕ) (s : List ℕ) (clear : List Bool) (before facts : List ℕ) (k here total : ℕ) (seen : List Bool) (u : Coding b at s clear before facts k here total seen) (h : k < b.blocks) (marked : List Bool) (middle : List ℕ) (r : Result BlockEnd Refusal) (p : CodeRead mosts b total here (total + k) s seen (as_block r marked) facts middle) where
  -- the next block, counted from the start
  told : {q : Result BlockEnd Refusal} → r ≡ q → map_parse (passed seen) (later here (block_of mosts b total seen (drop here s))) ≡ as_block q marked
  told g = map_later (passed seen) here (block_of mosts b total seen (drop here s)) ∙ sym p.answers ∙ ap (λ x. as_block x marked) g

  -- it is refused
  pub coding_stop : {a : Result ℕ Refusal} (entry : List ℕ) → Passed r a → BlocksRead b at s clear (as_part a) entry middle
  unfolding blocks_of
  coding_stop entry (e, (g, v)) =
      let z : b.blocks - k ≡ suc (b.blocks - (k + 1)) = omega arith in
      let all = blocks_of mosts b 0 clear b.blocks (drop at s) in
      let d = block_of mosts b total seen (drop here s) in
      let y : later here (block_of mosts b total seen (drop here s)) ≡ bad e.cause e.offset = map_bad (passed seen) (later here d) (told g) in
      let f : bad e.cause e.offset ≡ later at (map_parse unit (blocks_of mosts b 0 clear b.blocks (drop at s))) =
      sym (sym (map_later unit at all) ∙ ap (map_parse unit) u.left ∙ rw z (first_bad here d _ (λ xs. u.behind_it_lem ++ xs) (drop here s) y)) in
      rw v record { answers = f; filled = λ xs n q. absurd (no_value at all f xs n q) }

  module _ {last : BlockEnd} (g : r ≡ Ok last) where
    -- the instructions so far are not too many
    pub coding_few : total + last.count ≤ 256
    coding_few =
        elim (map_inv (passed seen) (later here (block_of mosts b total seen (drop here s))) (told g)) [
          | image x i w ↦ elim (later_inv here (block_of mosts b total seen (drop here s)) i) [ behind n e f ↦ omega (arith, block_count mosts b total seen (drop here s) e, ap (λ p. p.count) w) ]
        ]

    -- one more is behind, where its end and the slot behind it are stored
    pub coding_again : (one facts' : List ℕ) → b.blocks ≤ 32 → one ≡ set middle (321 + (k + 1)) (last.end % 65536) → facts' ≡ set one (354 + (k + 1)) (total + last.count + (k + 1)) → Coding b at s clear before facts' (k + 1) last.end (total + last.count) marked
    unfolding blocks_of
    coding_again one facts' many e₁ e₂ =
        let z : b.blocks - k ≡ suc (b.blocks - (k + 1)) = omega arith in
        let stored : facts' ≡ set (set middle (321 + (k + 1)) (last.end % 65536)) (354 + (k + 1)) (total + last.count + (k + 1)) = e₂ ∙ ap (λ y. set y (354 + (k + 1)) (total + last.count + (k + 1))) e₁ in
        elim (map_inv (passed seen) (later here (block_of mosts b total seen (drop here s))) (told g)) [
          | image x i w ↦
              elim (later_inv here (block_of mosts b total seen (drop here s)) i) [
                | behind n e f ↦
                    let q : block_marks seen x.instructions ≡ marked = sym (ap (λ p. p.seen) w) in
                    let c : last.count ≡ length x.instructions = ap (λ p. p.count) w in
                    let in_s : here + n ≤ length s = omega (arith, ap (λ d. size d) e, size_block mosts b total seen (drop here s), length-drop here s, u.in_s) in
                    let rows = p.filled x n e in
                    let middle_kept : Kept 321 before middle = kept_through 321 (387 + 20 * (total + k)) (omega arith) u.kept rows.kept in
                    record {
                      under = omega arith;
                      in_s = rw f in_s;
                      few = coding_few;
                      long = u.long;
                      behind_it_lem = u.behind_it_lem ++ (x ∷ []);
                      count = omega (arith, length-append u.behind_it_lem (x ∷ []), u.count);
                      kept = rw stored (kept_set 321 (354 + (k + 1)) (total + last.count + (k + 1)) (omega arith) (kept_set 321 (321 + (k + 1)) (last.end % 65536) (omega arith) middle_kept));
                      placed = λ t.
                          rw (f, c)
                          (placed_more b s facts middle facts' u.behind_it_lem x here n total seen t (omega (arith, u.kept.long, u.long)) (omega (arith, u.count)) (omega (arith, coding_few, c)) (u.placed t) (rw u.count rows) e in_s (rw (u.count, ← f, ← c) stored));
                      left = u.left ∙ simp (z, e, q, ← c, f, map_later, map_map, later_later, drop-drop, append_assoc);
                    }
              ]
        ]

-- all are behind
pub coding_done : (b : Bounds) (at : ℕ) (s : List ℕ) (clear : List Bool) (before facts : List ℕ) (k here total : ℕ) (seen : List Bool) → Coding b at s clear before facts k here total seen → b.blocks ≤ k → (entry : List ℕ) → Kept 321 entry before → BlocksRead b at s clear (ok tt here) entry facts
unfolding blocks_of
coding_done b at s clear before facts k here total seen u h entry l =
    let z : b.blocks - k ≡ 0 = omega arith in
    let all = blocks_of mosts b 0 clear b.blocks (drop at s) in
    let e : later at (blocks_of mosts b 0 clear b.blocks (drop at s)) ≡ ok u.behind_it_lem here = u.left ∙ simp (z, append-nil, add-zero) in
    record {
      answers = sym (sym (map_later unit at all) ∙ ap (map_parse unit) e);
      filled = λ xs n f.
          let g : later at (ok xs n) ≡ ok u.behind_it_lem here = sym (ap (later at) f) ∙ e in
          let p : u.behind_it_lem ≡ xs = cc in
          rw (← p) record { kept = kept_through 321 321 (omega arith) l u.kept; blocks = λ t. (u.placed t).blocks; code = λ t. (u.placed t).code };
    }
