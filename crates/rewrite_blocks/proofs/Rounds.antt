-- The loop over all blocks.
use Prim.Native.Nat.{ℕ, suc, ◌+◌, ◌*◌, ◌≤◌, ◌<◌}
use mathlib.Core.Path.{◌≡◌, ap, ◌∙◌, sym}
use mathlib.Core.List.{List, [], ◌∷◌}
use mathlib.Core.Option.{Option, none, some}
use native.Mathlib.Omega.{arith}
use native.Mathlib.Numerals.{add-one}
use lib.ListN.{length, get_or, drop}
use lib.Seq.{drop-cons, drop-length}
use Rattle.mir.specs.Syntax.{Block}
use Rattle.bytes_index.specs.Code.{no_block}
use Rattle.mir.specs.Lookup.{Types}
use Rattle.rewrite.proofs.Limits.{Short, limited_blocks}
use Rattle.rewrite.specs.Run.{Rewritten, Choice, all_blocks}
use Rattle.rewrite_progress.specs.declared.Progress.{Progress}
use Rattle.std.specs.Prelude.{Result, Ok, Err}
use Rattle.rewrite.specs.declared.Fault.{Fault}
use Rattle.rewrite_progress.specs.declared.Run.{Run}
use Rattle.rewrite_progress.specs.Ground.{Coded}
use Rattle.rewrite_progress.specs.Chosen.{Follows}
use Rattle.rewrite_progress.specs.Effect.{Effect, Output, behind, further, rewritten_effect, Low, PutLow}
use Rattle.rewrite_progress.proofs.Laws.{behind_then, behind_none}
use Rattle.rewrite_step.specs.Stepping.{Lent, output_in, PutsIn, fresh_from, Numbered}
use Rattle.rewrite_perform.proofs.Lows.{low_mono}
use Rattle.rewrite_progress.proofs.Faults.{met_first, met_next, puts_effect, puts_fault}
use Rattle.rewrite_blocks.specs.Blocks.{rewritten, OnePut, AllPut}
use Rattle.rewrite_blocks.proofs.Whole.{cons_blocks}

-- of blocks that give `whole` from the output o on, the blocks `rest` are left at the progress p
pub record BlocksLeft (run : Run) (τ : Types) (c : Choice) (o : Output) (whole : Effect) (fault : Option Fault) (rest : List Block) (l : Lent) (p : Progress) : Type 0 where
  pub same : behind (output_in l p) (rewritten_effect (rewritten run τ c p rest)) ≡ behind o whole
  pub safe : (rewritten run τ c p rest).fault ≡ fault
  pub bound : Numbered run.code.bounds p
  pub first : p.lines ≡ 0

module _ (run : Run) (τ : Types) (c : Choice) (o : Output) (whole : Effect) (fault : Option Fault) where
  -- no block is left
  left_none : (l : Lent) (p : Progress) → BlocksLeft run τ c o whole fault [] l p → (fault ≡ none) × (output_in l p ≡ behind o whole)
  unfolding all_blocks rewritten_effect
  left_none l p left = (sym left.safe, sym (behind_none (output_in l p)) ∙ left.same)

  module _ (x : Block) (rest : List Block) (l : Lent) (p : Progress) (left : BlocksLeft run τ c o whole fault (x ∷ rest) l p) where
    abbrev at : ℕ
    at = fresh_from run.code.bounds p

    abbrev alone : Rewritten
    alone = rewritten run τ c p (x ∷ [])

    abbrev others : Rewritten
    others = all_blocks run.settings τ c (at + length alone.fresh) rest

    first_fault : (f : Fault) → alone.fault ≡ some f → fault ≡ some f
    first_fault f h = sym left.safe ∙ (cons_blocks run.settings τ c at x rest).1.0 ∙ met_first others.fault f h

    module _ (l' : Lent) (q : Progress) (safe : alone.fault ≡ none) (out : output_in l' q ≡ behind (output_in l p) (rewritten_effect alone)) (short : Short x) where
      fresh_on : fresh_from run.code.bounds q ≡ at + length alone.fresh
      unfolding behind further rewritten_effect
      fresh_on =
          let z : q.fresh ≡ p.fresh + length alone.fresh = ap (λ y. y.progress.fresh) out in
          omega (arith, z)

      no_lines : q.lines ≡ 0
      unfolding behind further rewritten_effect
      no_lines =
          let z : q.lines ≡ p.lines + 0 = ap (λ y. y.progress.lines) out in
          omega (arith, z, left.first)

      moved : rewritten run τ c q rest ≡ others
      moved = ap (λ n. all_blocks run.settings τ c n rest) fresh_on

      blocks_again : BlocksLeft run τ c o whole fault rest l' q
      blocks_again =
          record {
            same = ap (λ y. behind (output_in l' q) (rewritten_effect y)) moved ∙ ap (λ y. behind y (rewritten_effect others)) out ∙ behind_then (output_in l p) (rewritten_effect alone) (rewritten_effect others) ∙ ap (λ e. behind (output_in l p) e) (sym (cons_blocks run.settings τ c at x rest).0) ∙ left.same;
            safe = ap (λ y. y.fault) moved ∙ sym (met_next others.fault safe) ∙ sym (cons_blocks run.settings τ c at x rest).1.0 ∙ left.safe;
            bound = omega (arith, (limited_blocks run.settings τ c at (x ∷ []) (short, tt) (omega (arith, left.bound)) safe).next, fresh_on);
            first = no_lines;
          }

pub record Laid (run : Run) (l₀ : Lent) (p : Progress) (l : Lent) (q : Progress) (k : ℕ) : Type 0 where
  pub few : k ≤ run.code.bounds.blocks
  pub low : (n : ℕ) → Low n p → Low (n + 130 * k) q
  pub tracked_size : length l.tracked ≡ length l₀.tracked
  pub dropped_size : length l.dropped ≡ length l₀.dropped
  pub work_size : length l.work ≡ length l₀.work
  pub out_size : length l.out ≡ length l₀.out
  pub left : (τ : Types) (c : Choice) (ks : List Block) → Coded run.code.bounds run.code.bytes.now run.code.facts.now τ ks → Follows c run.code.facts.now run.choice.now ks → p.lines ≡ 0 → Numbered run.code.bounds p → BlocksLeft run τ c (output_in l₀ p) (rewritten_effect (rewritten run τ c p ks)) (rewritten run τ c p ks).fault (drop k ks) l q

module _ (run : Run) (l₀ : Lent) (p : Progress) where
  module _ (l : Lent) (q : Progress) (k : ℕ) (inv : Laid run l₀ p l q k) where
    -- all blocks are behind
    pub laid_all : run.code.bounds.blocks ≤ k → AllPut run l₀ p l (Ok q)
    laid_all h τ c ks co fo z en =
        let y : k ≡ length ks = omega (arith, inv.few, co.many) in
        let d : drop k ks ≡ [] = ap (λ n. drop n ks) y ∙ drop-length ks in
        let v = inv.left τ c ks co fo z en in
        let w = left_none run τ c _ _ _ l q (rw d at v) in
        puts_effect _ _ _ _ _ _ q w.0 w.1

    module _ (h : k < run.code.bounds.blocks) (l' : Lent) (r : Result Progress Fault) (one : OnePut run k l q l' r) where
      module _ (τ : Types) (c : Choice) (ks : List Block) (co : Coded run.code.bounds run.code.bytes.now run.code.facts.now τ ks) (fo : Follows c run.code.facts.now run.choice.now ks) (z : p.lines ≡ 0) (en : Numbered run.code.bounds p) where
        abbrev all : Rewritten
        all = rewritten run τ c p ks

        abbrev this : Block
        this = get_or ks k no_block

        below : k < length ks
        below = omega (arith, co.many)

        next_left : BlocksLeft run τ c (output_in l₀ p) (rewritten_effect all) all.fault (this ∷ drop (suc k) ks) l q
        next_left = rw (← drop-cons ks k no_block below) (inv.left τ c ks co fo z en)

        turned : PutsIn (output_in l q) (rewritten_effect (rewritten run τ c q (this ∷ []))) (λ lines. (rewritten run τ c q (this ∷ [])).fault) l' r
        turned = one τ c ks co fo below next_left.first next_left.bound

        -- a fault was met
        pub laid_fault : (f : Fault) → r ≡ Err f → PutsIn (output_in l₀ p) (rewritten_effect all) (λ lines. all.fault) l' (Err f)
        laid_fault f v = puts_fault _ _ _ _ _ _ f (first_fault run τ c (output_in l₀ p) (rewritten_effect all) all.fault this (drop (suc k) ks) l q next_left f (turned.refused f v))

        went_on : (w : Progress) → r ≡ Ok w → BlocksLeft run τ c (output_in l₀ p) (rewritten_effect all) all.fault (drop (suc k) ks) l' w
        went_on w v =
            let y = turned.went w v in
            blocks_again run τ c (output_in l₀ p) (rewritten_effect all) all.fault this (drop (suc k) ks) l q next_left l' w y.0 y.1 (omega (arith, co.small k below))

      -- one more is behind
      pub laid_again : (w : Progress) → r ≡ Ok w → ((n : ℕ) → Low n q → PutLow (n + 130) r) → length l'.tracked ≡ length l.tracked → length l'.dropped ≡ length l.dropped → length l'.work ≡ length l.work → length l'.out ≡ length l.out → Laid run l₀ p l' w (k + 1)
      laid_again w v lo lt ld lw lu =
          let lows : (n : ℕ) → Low n q → Low (n + 130) w = λ n y. rw v at (lo n y) in
          record {
            few = omega arith;
            low = λ n y. low_mono (n + 130 * k + 130) (n + 130 * (k + 1)) w (omega arith) (lows (n + 130 * k) (inv.low n y));
            tracked_size = lt ∙ inv.tracked_size;
            dropped_size = ld ∙ inv.dropped_size;
            work_size = lw ∙ inv.work_size;
            out_size = lu ∙ inv.out_size;
            left = λ τ c ks co fo z en. rw (add-one k) (went_on τ c ks co fo z en w v);
          }
