-- The instructions of a block, one after another, each into its row; then its terminator.
use Prim.Native.Nat.{ℕ, suc, ◌+◌, ◌-◌, ◌*◌, ◌≤◌, ◌<◌}
use mathlib.Core.Path.{◌≡◌, refl, ap, ◌∙◌, sym}
use mathlib.Core.List.{List, [], ◌∷◌, ◌++◌, append_assoc, append-nil}
use mathlib.Core.Bool.{Bool, false, not, ◌||◌}
use mathlib.Core.Logic.{⊎_elim}
use native.Mathlib.Nat.{add-zero, eq-or-lt_of_le}
use native.Mathlib.Omega.{arith}
use lib.ListN.{length, get_or, drop, set, length-set, length-append, length-drop, get_or-append}
use lib.Seq.{drop-drop, get_or_at, get_or-set_other}
use Rattle.std.specs.Prelude.{Result, Ok, Err}
use Rattle.bytes_wire.specs.declared.Refusal.{Refusal}
use Rattle.bytes_wire.specs.Parse.{ok, bad, later, map_parse}
use Rattle.bytes_wire.proofs.Laws.{Behind, size, size_map, map_later, map_map, later_later}
use Rattle.bytes_wire.proofs.Inv.{no_ok, image, map_inv, map_bad}
use Rattle.mir.specs.Syntax.{Instruction}
use Rattle.mir.specs.Reads.{dests, is_phi}
use Rattle.bytes_field.specs.Decode.{instruction_of}
use Rattle.bytes_field.specs.Walk.{Walk, walk_of, passes, as_scan, as_part}
use Rattle.bytes_field.specs.declared.Bounds.{Bounds}
use Rattle.bytes_field.specs.declared.Scan.{Scan}
use Rattle.bytes_index.specs.Code.{no_instruction, InstructionIn, InstructionsIn}
use Rattle.bytes_block.specs.Decode.{marks, block_marks, instructions_of}
use Rattle.bytes_block.specs.Rows.{row_ended, Kept, Tabular, Room, Filled, InstructionsRead}
use Rattle.bytes_block.proofs.Laws.{behind_seen}
use Rattle.bytes_block.proofs.Sizes.{size_instruction}
use Rattle.bytes_block.proofs.Rows.{passes_notes, row_kept, instruction_row, instructions_same}

-- the first n numbers stay through two changes
pub kept_through : (n k : ℕ) {a b c : List ℕ} → n ≤ k → Kept n a b → Kept k b c → Kept n a c
kept_through n k h p q = record { long = q.long ∙ p.long; same = λ j l. q.same j (omega arith) ∙ p.same j l }

-- no change
pub kept_all : (n : ℕ) (l : List ℕ) → Kept n l l
kept_all n l = record { long = refl; same = λ j h. refl }

-- a number that is stored behind them
pub kept_set : (n i x : ℕ) {a b : List ℕ} → n ≤ i → Kept n a b → Kept n a (set b i x)
kept_set n i x {a} {b} h p = record { long = length-set b i x ∙ p.long; same = λ j l. get_or-set_other b i j x 0 (λ q. omega arith) ∙ p.same j l }

-- of `count` instructions i are behind, and have their rows
pub record Filling (b : Bounds) (at count first : ℕ) (s : List ℕ) (clear : List Bool) (before facts : List ℕ) (i here : ℕ) (late : Bool) (seen : List Bool) : Type 0 where
  pub under : i ≤ count
  pub in_s : here ≤ length s
  pub behind_it_lem : List Instruction
  pub many : length behind_it_lem ≡ i
  pub marking : seen ≡ block_marks clear behind_it_lem
  pub filled : Filled b s first count before facts (InstructionsIn b s facts first behind_it_lem)
  pub left : later at (instructions_of b clear false count (drop at s)) ≡ later here (map_parse (λ is. behind_it_lem ++ is) (instructions_of b seen late (count - i) (drop here s)))

-- the marks behind one more
marks_more : (seen : List Bool) (is : List Instruction) (i : Instruction) → block_marks seen (is ++ (i ∷ [])) ≡ marks (block_marks seen is) (dests i.kind)
marks_more seen [] i = refl
marks_more seen (j ∷ is) i = marks_more (marks seen (dests j.kind)) is i

-- one more row, behind those that stay
rows_more : (b : Bounds) (s facts facts' : List ℕ) (first : ℕ) (is : List Instruction) (i : Instruction) → Tabular b s → Kept (387 + 20 * (first + length is)) facts facts' → InstructionsIn b s facts first is → InstructionIn b s facts' (first + length is) i → InstructionsIn b s facts' first (is ++ (i ∷ []))
rows_more b s facts facts' first is i t kept a r k l =
    let q : k ≤ length is = omega (arith, length-append is (i ∷ [])) in
    ⊎_elim (λ e. let z : get_or (is ++ (i ∷ [])) k no_instruction ≡ i = ap (λ j. get_or (is ++ (i ∷ [])) j no_instruction) e ∙ get_or_at is i [] no_instruction (length is) refl in rw (z, e) r)
    (λ h. rw (get_or-append is (i ∷ []) no_instruction k h) (instructions_same b s facts facts' t first is (λ j x y. kept.same j y) a k h))
    (eq-or-lt_of_le q)

module _ (b : Bounds) (at count first : ℕ) (s : List ℕ) (clear : List Bool) (before facts : List ℕ) (i here : ℕ) (late : Bool) (seen : List Bool) (u : Filling b at count first s clear before facts i here late seen) (h : i < count) where
  abbrev row : Walk
  row = walk_of seen facts (387 + 20 * (first + i) + 4) late

  module _ {r : Result Scan Refusal} (seen' : List Bool) (facts' : List ℕ) (e : as_scan r seen' facts' ≡ map_parse (passes row) (instruction_of b seen late (drop here s))) where
    told : {q : Result Scan Refusal} → r ≡ q → map_parse (passes row) (instruction_of b seen late (drop here s)) ≡ as_scan q seen' facts'
    told g = sym e ∙ ap (λ x. as_scan x seen' facts') g

    -- it reaches no further than the bytes do
    pub filling_size : {q : Result Scan Refusal} → r ≡ q → here + size (as_scan q seen' facts') ≤ length s
    filling_size g = omega (arith, ap (λ d. size d) (told g), size_map (passes row) (instruction_of b seen late (drop here s)), size_instruction b seen late (drop here s), length-drop here s, u.in_s)

    -- the next instruction is refused
    filling_stop : {e' : Refusal} (marked : List Bool) → r ≡ Err e' → InstructionsRead b at count first s clear marked (bad e'.cause (here + e'.offset)) before facts'
    unfolding instructions_of
    filling_stop {e'} marked g =
        let z : count - i ≡ suc (count - (i + 1)) = omega arith in
        let d = instruction_of b seen late (drop here s) in
        let all = instructions_of b clear false count (drop at s) in
        let x : map_parse (block_marks clear) (later at (instructions_of b clear false count (drop at s))) ≡ bad e'.cause (here + e'.offset) = ap (map_parse (block_marks clear)) u.left ∙ simp (z, map_bad (passes row) d (told g)) in
        record { answers = sym (sym (map_later (block_marks clear) at all) ∙ x); filled = λ is n f. absurd (no_ok (sym x ∙ ap (λ d. map_parse (block_marks clear) (later at d)) f)) }

    pub filling_refused : {q : Result ℕ Refusal} (marked : List Bool) → Behind here r q → InstructionsRead b at count first s clear marked (as_part q) before facts'
    filling_refused marked (e', (g, z)) = rw z (filling_stop marked g)

    module _ {used : Scan} (g : r ≡ Ok used) where
      -- the reads stand behind the row's four numbers
      pub filling_reads : 391 + 20 * (first + i) ≤ used.reads
      filling_reads = elim (map_inv (passes row) (instruction_of b seen late (drop here s)) (told g)) [ image x f w ↦ omega (arith, (passes_notes row x).grows, ap (λ v. v.count) w) ]

      -- its row is ended, and one more is behind
      pub filling_again : (facts'' : List ℕ) → facts'' ≡ row_ended facts' (387 + 20 * (first + i)) here (here + used.size) (get_or (drop here s) 1 0) (used.reads - (391 + 20 * (first + i))) → Filling b at count first s clear before facts'' (i + 1) (here + used.size) used.late seen'
      unfolding instructions_of
      filling_again facts'' ended =
          let z : count - i ≡ suc (count - (i + 1)) = omega arith in
          elim (map_inv (passes row) (instruction_of b seen late (drop here s)) (told g)) [
            | image x f w ↦
                let v = walk_of seen' facts' used.reads used.late in
                let p : seen' ≡ marks seen (dests x.kind) = ap (λ v. v.seen) w ∙ behind_seen row x.kind in
                let q : used.late ≡ (late || not (is_phi x.kind)) = ap (λ v. v.late) w in
                let n = rw (← w) at (passes_notes row x) in
                let kept : Kept (387 + 20 * (first + i)) facts facts'' = row_kept facts facts'' seen late (first + i) here (here + used.size) _ _ v n ended in
                record {
                  under = omega arith;
                  in_s = filling_size g;
                  behind_it_lem = u.behind_it_lem ++ (x ∷ []);
                  many = omega (arith, length-append u.behind_it_lem (x ∷ []), u.many);
                  marking = p ∙ ap (λ y. marks y (dests x.kind)) u.marking ∙ sym (marks_more clear u.behind_it_lem x);
                  filled = record {
                    kept = kept_through (387 + 20 * first) (387 + 20 * (first + i)) (omega arith) u.filled.kept kept;
                    rows = λ t r.
                        let y : Room facts (first + i) 1 = omega (arith, u.filled.kept.long) in
                        rows_more b s facts facts'' first u.behind_it_lem x t (rw u.many kept) (u.filled.rows t r) (rw u.many (instruction_row b s facts facts'' seen late (first + i) here used.size x v w ended f u.in_s t y));
                  };
                  left = u.left ∙ simp (z, f, p, q, map_later, map_map, later_later, drop-drop, append_assoc);
                }
          ]

-- all are behind
pub filling_done : (b : Bounds) (at count first : ℕ) (s : List ℕ) (clear : List Bool) (before facts : List ℕ) (i here : ℕ) (late : Bool) (seen : List Bool) → Filling b at count first s clear before facts i here late seen → count ≤ i → InstructionsRead b at count first s clear seen (ok tt here) before facts
unfolding instructions_of
filling_done b at count first s clear before facts i here late seen u h =
    let z : count - i ≡ 0 = omega arith in
    let all = instructions_of b clear false count (drop at s) in
    let e : later at (instructions_of b clear false count (drop at s)) ≡ ok u.behind_it_lem here = u.left ∙ simp (z, append-nil, add-zero) in
    record {
      answers = sym (sym (map_later (block_marks clear) at all) ∙ ap (map_parse (block_marks clear)) e ∙ ap (λ y. ok y here) (sym u.marking));
      filled = λ is n f. let g : later at (ok is n) ≡ ok u.behind_it_lem here = sym (ap (later at) f) ∙ e in let p : u.behind_it_lem ≡ is = cc in rw p at u.filled;
    }
