-- A terminator, and a block: its count, instructions and terminator, with their rows.
use Prim.Native.Nat.{ℕ, zero, suc, ◌+◌, ◌-◌, ◌*◌, ◌≤◌, ◌<◌}
use mathlib.Core.Path.{◌≡◌, refl, ap, ◌∙◌, sym}
use mathlib.Core.List.{List, [], ◌∷◌, map}
use mathlib.Core.Bool.{Bool, false, ◌&&◌}
use native.Mathlib.Nat.{le_trans}
use native.Mathlib.Omega.{arith}
use borrow.Author.Tests.{le-leb, lt-leb, leb-true}
use lib.ListN.{length, get_or, drop, length-drop, get_or-eq_default}
use lib.Seq.{drop-drop}
use lib.Dec.{leb}
use Rattle.std.proofs.lemmas.Bool.{and_parts}
use Rattle.std.specs.Prelude.{Result, Ok, Err}
use Rattle.bytes_wire.specs.declared.Read.{Read}
use Rattle.bytes_wire.specs.declared.Refusal.{Refusal}
use Rattle.bytes_block.specs.declared.BlockEnd.{BlockEnd}
use Rattle.bytes_wire.specs.Parse.{as_parse, as_read, Parse, ok, bad, later, and_then, map_parse}
use Rattle.bytes_wire.specs.Number.{u16_of}
use Rattle.bytes_wire.specs.declared.Cause.{Cause}
use Rattle.bytes_wire.proofs.Laws.{Behind, was, size, size_map, size_later, size_checked, size_number, map_later, later_later}
use Rattle.bytes_wire.proofs.Inv.{no_ok, both, behind, image, later_inv, and_inv, map_inv, map_bad, checked_inv, number_inv}
use Rattle.mir.specs.Syntax.{Instruction, Terminator, Block}
use Rattle.mir.specs.Reads.{terminator_reads}
use Rattle.bytes_field.specs.Decode.{terminators, terminator_of}
use Rattle.bytes_field.specs.Walk.{Walk, walk_of, leaves, row_walk, terminator_rows, as_scan, as_part, unit}
use Rattle.bytes_field.specs.declared.Bounds.{Bounds}
use Rattle.bytes_field.specs.declared.Scan.{Scan}
use Rattle.bytes_field.proofs.Laws.{and_later}
use Rattle.bytes_field.proofs.Rows.{terminator_row as row_of_lem}
use Rattle.bytes_block.specs.Decode.{as_block, block_marks, instructions_of, block_count_of, block_of, passed}
use Rattle.bytes_block.specs.Rows.{row_ended, InstructionsRead, TerminatorRead, CodeRead}
use Rattle.bytes_block.specs.declared.Mosts.{Mosts}
use Rattle.bytes_block.proofs.Laws.{instructions_length}
use Rattle.bytes_block.proofs.Sizes.{size_left, size_instructions}
use Rattle.bytes_block.proofs.Rows.{noted, row_kept, terminator_row, instructions_same}
use Rattle.bytes_block.proofs.Filling.{kept_through}

-- counted from later or from earlier, the same is chosen
choose_later : {A : Type 0} (fs : List (List ℕ → Parse A)) (t : List ℕ) (k : ℕ) → k < length fs → get_or (map (λ f. later 1 (f t)) fs) k (bad Cause.Undefined 0) ≡ later 1 (get_or (map (λ f. f t) fs) k (bad Cause.Undefined 0))
choose_later [] t k h = absurd (omega arith)
choose_later (f ∷ fs) t zero h = refl
choose_later (f ∷ fs) t (suc k) h = choose_later fs t k (omega arith)

module _ (b : Bounds) (w : Walk) (s : List ℕ) where
  -- there is no byte for the kind
  pub no_terminator : length s < 1 → ◌≡◌ {A = Parse Walk} (bad Cause.Truncated 0) (map_parse (leaves w) (terminator_of b s))
  unfolding terminator_of
  no_terminator h = simp (lt-leb _ _ h)

  -- the kind is none of the 5
  pub terminator_past : 1 ≤ length s → 5 ≤ get_or s 0 0 → ◌≡◌ {A = Parse Walk} (bad Cause.Undefined 0) (map_parse (leaves w) (terminator_of b s))
  unfolding terminator_of
  terminator_past h g =
      let e = get_or-eq_default (map (λ f. later 1 (f (drop 1 s))) (terminators b)) (bad Cause.Undefined 0) {n = get_or s 0 0} g in
      simp (le-leb _ _ h) (rw e)

  -- the row of the kind
  pub terminator_walked : {row : ℕ} {r : Parse Walk} → 1 ≤ length s → get_or s 0 0 < 5 → row ≡ get_or terminator_rows (get_or s 0 0) 0 → r ≡ and_then s (ok w 1) (λ v t. row_walk b 0 5 row v t) → r ≡ map_parse (leaves w) (terminator_of b s)
  unfolding terminator_of
  terminator_walked h g er e =
      let k = get_or s 0 0 in
      let t = drop 1 s in
      let d = get_or (map (λ f. f t) (terminators b)) k (bad Cause.Undefined 0) in
      let told : map_parse (leaves w) (terminator_of b s) ≡ later 1 (map_parse (leaves w) d) =
      simp (le-leb _ _ h) (ap (map_parse (leaves w)) (choose_later (terminators b) t k g) ∙ map_later (leaves w) 1 d) in
      e ∙ ap (λ x. later 1 (row_walk b 0 5 x w t)) er ∙ ap (later 1) (row_of_lem b 0 w k t g) ∙ sym told

-- reading a terminator: what the scan answered, and the row that it ended
module _ (b : Bounds) (s facts facts' : List ℕ) (seen seen' : List Bool) (slot at : ℕ) (h : at ≤ length s) (r : Result Scan Refusal) (e : as_scan r seen' facts' ≡ map_parse (leaves (walk_of seen facts (387 + 20 * slot + 4) false)) (terminator_of b (drop at s))) where
  abbrev row : Walk
  row = walk_of seen facts (387 + 20 * slot + 4) false

  told : {q : Result Scan Refusal} → r ≡ q → map_parse (leaves row) (terminator_of b (drop at s)) ≡ as_scan q seen' facts'
  told g = sym e ∙ ap (λ x. as_scan x seen' facts') g

  -- it reaches no further than the bytes do
  pub end_size : {q : Result Scan Refusal} → r ≡ q → at + size (as_scan q seen' facts') ≤ length s
  end_size g = omega (arith, ap (λ d. size d) (told g), size_left b row (drop at s), length-drop at s)

  module _ {used : Scan} (g : r ≡ Ok used) where
    -- its reads stand behind the row's four numbers
    pub end_reads : 391 + 20 * slot ≤ used.reads
    end_reads = elim (map_inv (leaves row) (terminator_of b (drop at s)) (told g)) [ image x f w ↦ omega (arith, (noted row (terminator_reads x)).grows, ap (λ v. v.count) w) ]

    -- its row is ended
    pub end_some : (facts'' : List ℕ) → facts'' ≡ row_ended facts' (387 + 20 * slot) at (at + used.size) 0 (used.reads - (391 + 20 * slot)) → TerminatorRead b at slot s (ok tt (at + used.size)) facts facts''
    end_some facts'' ended =
        elim (map_inv (leaves row) (terminator_of b (drop at s)) (told g)) [
          | image x f w ↦
              let v = walk_of seen' facts' used.reads used.late in
              let n = rw (← w) at (noted row (terminator_reads x)) in
              record {
                answers = sym (rw f);
                filled = λ y j q.
                    let z : x ≡ y = cc in
                    rw (← z) record {
                      kept = row_kept facts facts'' seen false slot at (at + used.size) 0 (terminator_reads x) v n ended;
                      rows = λ t room. terminator_row b s facts facts'' seen slot at used.size x v w ended f h t room;
                    };
              }
        ]

module _ (m : Mosts) (b : Bounds) (total at first : ℕ) (s : List ℕ) (seen : List Bool) (before facts : List ℕ) where
  -- a refusal leaves no rows
  code_bad : {c : Cause} {o : ℕ} → later at (block_of m b total seen (drop at s)) ≡ bad c o → CodeRead m b total at first s seen (bad c o) before facts
  code_bad e =
      record {
        answers = sym (sym (map_later (passed seen) at (block_of m b total seen (drop at s))) ∙ ap (map_parse (passed seen)) e);
        filled = λ x n f. absurd (no_ok (sym e ∙ ap (later at) f));
      }

  -- the count is refused
  pub no_block : {r : Result (Read ℕ) Refusal} {q : Result BlockEnd Refusal} → Behind at r q → as_parse r ≡ block_count_of m total (drop at s) → CodeRead m b total at first s seen (as_block q seen) before facts
  unfolding block_of
  no_block (f, (g, y)) e = rw y (code_bad (rw (sym (was as_read e g)) refl))

  module _ {k n : ℕ} (e : block_count_of m total (drop at s) ≡ ok k n) (marked : List Bool) (middle : List ℕ) (r : Result ℕ Refusal) (p : InstructionsRead b (at + n) k first s seen marked (as_part r) before middle) where
    -- the instructions behind the count
    abbrev code : Parse (List Instruction)
    code = later (at + n) (instructions_of b seen false k (drop (at + n) s))

    -- and the terminator behind them
    abbrev rest : List Instruction → List ℕ → Parse Block
    rest is t = map_parse (λ x. record { instructions = is; terminator = x }) (terminator_of b t)

    after_count : later at (block_of m b total seen (drop at s)) ≡ and_then s code rest
    unfolding block_of
    after_count = simp (e, and_later, later_later, drop-drop)

    marked_code : {q : Result ℕ Refusal} → r ≡ q → map_parse (block_marks seen) code ≡ map_parse (λ u. marked) (as_part q)
    marked_code g = map_later (block_marks seen) (at + n) (instructions_of b seen false k (drop (at + n) s)) ∙ sym p.answers ∙ ap (λ x. map_parse (λ u. marked) (as_part x)) g

    -- the instructions are refused
    pub code_stop : {z : Refusal} → r ≡ Err z → CodeRead m b total at first s seen (bad z.cause z.offset) before facts
    code_stop g = code_bad (after_count ∙ ap (λ d. and_then s d rest) (map_bad (block_marks seen) code (marked_code g)))

    module _ {end : ℕ} (g : r ≡ Ok end) where
      -- they end within the bytes
      pub code_size : at + n ≤ length s → end ≤ length s
      code_size h = omega (arith, ap (λ d. size d) (marked_code g), size_map (block_marks seen) code, size_later (at + n) (instructions_of b seen false k (drop (at + n) s)), size_instructions b seen false k (drop (at + n) s), length-drop (at + n) s)

      module _ (q : Result ℕ Refusal) (f : TerminatorRead b end (first + k) s (as_part q) middle facts) where
        abbrev last : Parse Terminator
        last = later end (terminator_of b (drop end s))

        after_code : (is : List Instruction) → code ≡ ok is end → later at (block_of m b total seen (drop at s)) ≡ map_parse (λ x. record { instructions = is; terminator = x }) last
        after_code is h = after_count ∙ ap (λ d. and_then s d rest) h ∙ sym (map_later (λ x. record { instructions = is; terminator = x }) end (terminator_of b (drop end s)))

        told_end : {z : Result ℕ Refusal} → q ≡ z → map_parse unit last ≡ as_part z
        told_end h = map_later unit end (terminator_of b (drop end s)) ∙ sym f.answers ∙ ap as_part h

        -- the terminator is refused
        pub code_end : {z : Refusal} → q ≡ Err z → CodeRead m b total at first s seen (bad z.cause z.offset) before facts
        code_end h =
            elim (map_inv (block_marks seen) code (marked_code g)) [
              | image is i j ↦ code_bad (after_code is i ∙ ap (map_parse (λ x. record { instructions = is; terminator = x })) (map_bad unit last (told_end h)))
            ]

        -- the block is read, and has its rows
        pub code_some : {to : ℕ} → q ≡ Ok to → CodeRead m b total at first s seen (ok (record { seen = marked; count = k }) to) before facts
        code_some {to} h =
            elim (map_inv (block_marks seen) code (marked_code g)) [
              | image is i marking ↦
                  elim (map_inv unit last (told_end h)) [
                    | image x l v ↦
                        elim (later_inv (at + n) (instructions_of b seen false k (drop (at + n) s)) i) [
                          | behind j read place ↦
                              elim (later_inv end (terminator_of b (drop end s)) l) [
                                | behind j' read' place' ↦
                                    let many : length is ≡ k = instructions_length b seen false k (drop (at + n) s) read in
                                    let y : later at (block_of m b total seen (drop at s)) ≡ ok (record { instructions = is; terminator = x }) to = after_code is i ∙ rw l refl in
                                    let I = p.filled is j read in
                                    let T = f.filled x j' read' in
                                    record {
                                      answers = sym (sym (map_later (passed seen) at (block_of m b total seen (drop at s))) ∙ ap (map_parse (passed seen)) y ∙ rw (← marking, many) refl);
                                      filled = λ x' n' w.
                                          let o : ok (record { instructions = is; terminator = x }) to ≡ later at (ok x' n') = sym y ∙ ap (later at) w in
                                          let z : record { instructions = is; terminator = x } ≡ x' = cc in
                                          rw (← z) record {
                                            kept = kept_through (387 + 20 * first) (387 + 20 * (first + k)) (omega arith) I.kept T.kept;
                                            rows = λ t room. record {
                                              instructions = instructions_same b s middle facts t first is (λ j a c. T.kept.same j (omega arith)) (I.rows t (omega arith));
                                              terminator = rw many (T.rows t (omega (arith, I.kept.long)));
                                            };
                                          };
                                    }
                              ]
                        ]
                  ]
            ]

-- a block's count is a u16 that keeps to both mosts
pub record Counted (m : Mosts) (total : ℕ) (s : List ℕ) (k n : ℕ) : Type 0 where
  pub size : n ≡ 2
  pub there : 2 ≤ length s
  pub own : k ≤ m.block
  pub all : total + k ≤ m.all

pub block_counted : (m : Mosts) (total : ℕ) (s : List ℕ) {k n : ℕ} → block_count_of m total s ≡ ok k n → Counted m total s k n
block_counted m total s {k} {n} e =
    let c = checked_inv Cause.TooMany (λ n. leb n m.block && leb (total + n) m.all) (u16_of s) e in
    let v = number_inv 2 s c.0 in
    let h = and_parts (leb k m.block) (leb (total + k) m.all) c.1 in
    record { size = v.2; there = v.0; own = leb-true k m.block h.0; all = leb-true (total + k) m.all h.1 }

-- it reaches no further than the bytes do
pub size_block_count : (m : Mosts) (total : ℕ) (s : List ℕ) → size (block_count_of m total s) ≤ length s
size_block_count m total s = le_trans (size_checked Cause.TooMany (λ n. leb n m.block && leb (total + n) m.all) (u16_of s)) (size_number 2 s)

-- a block keeps to the most of all blocks
pub block_count : (m : Mosts) (b : Bounds) (total : ℕ) (seen : List Bool) (s : List ℕ) {x : Block} {n : ℕ} → block_of m b total seen s ≡ ok x n → total + length x.instructions ≤ m.all
unfolding block_of
block_count m b total seen s {x} e =
    elim (and_inv s (block_count_of m total s) (λ n s. and_then s (instructions_of b seen false n s) (λ is s. map_parse (λ e. record { instructions = is; terminator = e }) (terminator_of b s))) e) [
      | both k j i p q r ↦
          elim (and_inv (drop j s) (instructions_of b seen false k (drop j s)) (λ is s. map_parse (λ e. record { instructions = is; terminator = e }) (terminator_of b s)) q) [
            | both is l o p2 q2 r2 ↦
                elim (map_inv (λ e. record { instructions = is; terminator = e }) (terminator_of b (drop l (drop j s))) q2)
                [ image y f g ↦ omega (arith, ap (λ x. length x.instructions) g, instructions_length b seen false k (drop j s) p2, (block_counted m total s p).all) ]
          ]
    ]
