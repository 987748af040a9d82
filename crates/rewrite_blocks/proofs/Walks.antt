-- A block's instructions, one after another: what is left of the block gives the rest of what the whole gives.
use Prim.Native.Nat.{ℕ, suc, ◌+◌, ◌*◌, ◌≤◌, ◌<◌}
use mathlib.Core.Path.{◌≡◌, refl, ap, ◌∙◌, sym}
use mathlib.Core.List.{List, [], ◌∷◌}
use mathlib.Core.Bool.{Bool, false}
use mathlib.Core.Option.{some}
use native.Mathlib.Omega.{arith}
use native.Mathlib.Numerals.{add-one}
use lib.ListN.{length, get_or, drop}
use lib.Seq.{drop-cons, drop-length, length-take-le}
use Rattle.mir.specs.declared.ValueId.{ValueId}
use Rattle.mir.specs.Syntax.{Instruction, Terminator, Block}
use Rattle.bytes_index.specs.Code.{no_instruction}
use Rattle.mir.specs.Lookup.{Types}
use Rattle.rewrite.proofs.Within.{Within}
use Rattle.rewrite.proofs.Limits.{safe_step}
use Rattle.rewrite.specs.Piece.{Piece}
use Rattle.rewrite.specs.Step.{step}
use Rattle.rewrite.specs.Run.{Walked, glue, walk}
use Rattle.rewrite_parts.specs.Rows.{Room, row_most, rows_size, rows_in}
use Rattle.rewrite_progress.specs.declared.Run.{Run}
use Rattle.rewrite_progress.specs.Effect.{Output, behind, further, piece_effect, walked_effect, Low}
use Rattle.rewrite_progress.proofs.Laws.{behind_then, glue_effect}
use Rattle.rewrite_progress.proofs.Faults.{met_first, met_next}
use Rattle.rewrite_arms.specs.declared.Used.{Used}
use Rattle.rewrite_progress.specs.declared.Progress.{Progress}
use Rattle.std.specs.Prelude.{Result, Ok, Err}
use Rattle.rewrite.specs.declared.Fault.{Fault}
use Rattle.rewrite_step.specs.Stepping.{Lent, output_in, fresh_from, SteppedLow, Gone, Steps, StepsOn}
use Rattle.rewrite_perform.proofs.Lows.{low_mono}
use Rattle.bytes_index.specs.declared.slots.Slots.{Slots}
use Rattle.rewrite_blocks.specs.Blocks.{walk_from, walk_of, Left, Begun, Ready, InstructionsPut}

module _ (run : Run) (τ : Types) (folds : ValueId → Bool) (t : Terminator) (o : Output) (whole : Walked) (i : Instruction) (rest : List Instruction) (l : Lent) (w : Used Progress) (left : Left run τ folds t o whole (i ∷ rest) l w) where
  abbrev at : ℕ
  at = fresh_from run.code.bounds w.value

  -- the next piece, and what comes behind it
  abbrev piece : Piece
  piece = step run.settings τ folds left.states at i

  abbrev behind_it : Walked
  behind_it = walk run.settings τ folds piece.states (at + length piece.fresh) rest t

  glued : walk_from run τ folds left.states w.value (i ∷ rest) t ≡ glue piece behind_it
  unfolding walk
  glued = refl

  -- where the piece has a fault, the whole walk has
  pub left_fault : (f : Fault) → piece.fault w.value.lines ≡ some f → whole.fault o.progress.lines ≡ some f
  unfolding glue
  left_fault f h = sym left.fault ∙ ap (λ x. x.fault w.value.lines) glued ∙ met_first (behind_it.fault (w.value.lines + length piece.out)) f h

  module _ (l' : Lent) (v : Used Progress) (g : Gone run.code.bounds.next run.code.bytes.now (output_in l w.value) piece l' v) where
    -- as many fresh numbers as the piece took are taken
    further_on : fresh_from run.code.bounds v.value ≡ at + length piece.fresh
    unfolding behind further piece_effect
    further_on =
        let z : v.value.fresh ≡ w.value.fresh + length piece.fresh = ap (λ x. x.progress.fresh) g.out in
        omega (arith, z)

    lines_on : v.value.lines ≡ w.value.lines + length piece.out
    unfolding behind further piece_effect
    lines_on = ap (λ x. x.progress.lines) g.out

    -- and what comes next is a number, and a line
    within : Within at w.value.lines piece.fresh piece.out
    within = safe_step run.settings τ left.states at folds i w.value.lines (omega (arith, left.bound)) left.lines g.safe

    moved : walk_from run τ folds piece.states v.value rest t ≡ behind_it
    moved = ap (λ n. walk run.settings τ folds piece.states n rest t) further_on

    pub left_again : Left run τ folds t o whole rest l' v
    unfolding glue
    left_again =
        record {
          states = piece.states;
          rep = g.rep;
          same = ap (λ x. behind (output_in l' v.value) (walked_effect x)) moved ∙ ap (λ x. behind x (walked_effect behind_it)) g.out ∙ behind_then (output_in l w.value) (piece_effect piece) (walked_effect behind_it) ∙ ap (λ e. behind (output_in l w.value) e) (sym (glue_effect piece behind_it)) ∙ sym (ap (λ x. behind (output_in l w.value) (walked_effect x)) glued) ∙ left.same;
          fault = ap (λ x. x.fault v.value.lines) moved ∙ ap behind_it.fault lines_on ∙ sym (met_next (behind_it.fault (w.value.lines + length piece.out)) g.safe) ∙ sym (ap (λ x. x.fault w.value.lines) glued) ∙ left.fault;
          bound = omega (arith, within.numbers, further_on);
          lines = omega (arith, within.lines, lines_on);
        }

-- the loop, from the tables l₀ and the progress w₀ on
pub record Walking (run : Run) (at : Slots) (l₀ : Lent) (w₀ : Used Progress) (l : Lent) (w : Used Progress) (j : ℕ) : Type 0 where
  pub few : j ≤ at.count
  pub low : (n : ℕ) → Low n w₀.value → Low (n + j) w.value
  pub used : w.used ≤ w₀.used + row_most * j
  pub tracked_size : length l.tracked ≡ length l₀.tracked
  pub dropped_size : length l.dropped ≡ length l₀.dropped
  pub work_size : length l.work ≡ length l₀.work
  pub out_size : length l.out ≡ length l₀.out
  pub left : (τ : Types) (folds : ValueId → Bool) (x : Block) → Begun run at l₀ w₀ τ folds x
      → Left run τ folds x.terminator (output_in l₀ w₀.value) (walk_of run τ folds w₀.value x) (drop j x.instructions) l w

module _ (run : Run) (at : Slots) (l₀ : Lent) (w₀ : Used Progress) where
  module _ (l : Lent) (w : Used Progress) (j : ℕ) (inv : Walking run at l₀ w₀ l w j) where
    -- all instructions are behind
    pub walking_done : at.count ≤ j → InstructionsPut run at l₀ w₀ l (Ok w)
    walking_done h τ folds x a =
        let z : j ≡ length x.instructions = omega (arith, inv.few, a.many) in
        let q : drop j x.instructions ≡ [] = ap (λ n. drop n x.instructions) z ∙ drop-length x.instructions in
        let own = rw q at (inv.left τ folds x a) in
        record { refused = λ y e. absurd (let u : ◌≡◌ {A = ℕ} 0 1 = cc in omega arith); went = λ v e. let y : v ≡ w = cc in rw y own }

    module _ (ready : Ready at w₀ l₀.work) where
      -- the tables are long enough for a step
      pub walking_long : rows_size ≤ length l.work
      walking_long = omega (arith, ready.long, inv.work_size)

      module _ (h : j < at.count) (fold : Bool) (ef : fold ≡ get_or run.choice.now (at.first + j) false) (l' : Lent) (r : Result (Used Progress) Fault) (st : StepsOn run.code run.settings (at.first + j) fold l w l' r) where
        -- there is room for one more row
        room : Room (rows_in l.work) w.used
        room = omega (arith, length-take-le rows_size l.work walking_long, inv.used, ready.used, ready.most)

        module _ (τ : Types) (folds : ValueId → Bool) (x : Block) (a : Begun run at l₀ w₀ τ folds x) where
          abbrev whole : Walked
          whole = walk_of run τ folds w₀.value x

          abbrev this : Instruction
          this = get_or x.instructions j no_instruction

          abbrev rest : List Instruction
          rest = drop (suc j) x.instructions

          below : j < length x.instructions
          below = omega (arith, a.many)

          next_left : Left run τ folds x.terminator (output_in l₀ w₀.value) whole (this ∷ rest) l w
          next_left = rw (← drop-cons x.instructions j no_instruction below) (inv.left τ folds x a)

          turned : Steps run.code.bounds.next run.code.bytes.now (output_in l w.value) (step run.settings τ folds next_left.states (fresh_from run.code.bounds w.value) this) l' r
          turned =
              st τ next_left.states folds this
              (record { ground = a.ground; rep = next_left.rep; line = a.block.instructions j below })
              room
              (λ d e. ef ∙ a.flags j d below e)
              next_left.bound

          went_turn : (v : Used Progress) → r ≡ Ok v → Left run τ folds x.terminator (output_in l₀ w₀.value) whole rest l' v
          went_turn v e = left_again run τ folds x.terminator (output_in l₀ w₀.value) whole this rest l w next_left l' v (turned.went v e)

        -- a fault was met
        pub walking_fault : (f : Fault) → r ≡ Err f → InstructionsPut run at l₀ w₀ l' (Err f)
        walking_fault f e τ folds x a =
            record {
              refused = λ g z. let y : f ≡ g = cc in left_fault run τ folds x.terminator (output_in l₀ w₀.value) (whole τ folds x a) (this τ folds x a) (rest τ folds x a) l w (next_left τ folds x a) f ((turned τ folds x a).refused f e) ∙ ap some y;
              went = λ v z. absurd (let u : ◌≡◌ {A = ℕ} 0 1 = cc in omega arith);
            }

        -- one more is behind
        pub walking_again : (v : Used Progress) → r ≡ Ok v → ((n : ℕ) → Low n w.value → SteppedLow (n + 1) (w.used + row_most) r)
            → length l'.tracked ≡ length l.tracked
            → length l'.dropped ≡ length l.dropped
            → length l'.work ≡ length l.work
            → length l'.out ≡ length l.out
            → Walking run at l₀ w₀ l' v (j + 1)
        walking_again v e lo lt ld lw lu =
            let lows : (n : ℕ) → Low n w.value → Low (n + 1) v.value × (v.used ≤ w.used + row_most) = λ n y. rw e at (lo n y) in
            record {
              few = omega arith;
              low = λ n y. low_mono (n + j + 1) (n + (j + 1)) v.value (omega arith) (lows (n + j) (inv.low n y)).0;
              used = omega (arith, (lows (4801 + j) (inv.low 4801 ready.low)).1, inv.used);
              tracked_size = lt ∙ inv.tracked_size;
              dropped_size = ld ∙ inv.dropped_size;
              work_size = lw ∙ inv.work_size;
              out_size = lu ∙ inv.out_size;
              left = λ τ folds x a. rw (add-one j) (went_turn τ folds x a v e);
            }
