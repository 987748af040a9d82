-- The lines of what a call gives are the text of its answer.
use Prim.Native.Nat.{ℕ}
use mathlib.Core.Path.{◌≡◌, refl, ap, sym, ◌∙◌}
use mathlib.Core.List.{List}
use mathlib.Core.Bool.{Bool, true, false, cond}
use mathlib.Core.Option.{Option, none, some}
use native.Mathlib.Omega.{arith}
use lib.ListN.{length, take, drop, replicate}
use lib.Seq.{sets}
use lib.Dec.{ltb}
use Rattle.bytes_wire.specs.Parse.{Parse, ok, bad}
use Rattle.bytes_sections.specs.Decode.{mosts, whole_of}
use Rattle.bytes_sections.specs.Encode.{encode}
use Rattle.mir.specs.Routine.{Routine}
use Rattle.fold.specs.declared.Settings.{Settings}
use Rattle.rewrite.specs.declared.Fault.{Fault}
use Rattle.rewrite.specs.Run.{Rewritten, rewritten_blocks, rewrite_with}
use Rattle.rewrite.specs.Outcome.{Outcome, outcome, of_input, unless, rewritten, fitted_in}
use Rattle.shelf.specs.Answer.{Answer, refused, lowered, with_reason, reason_of, answer}
use Rattle.pass_numbers.specs.Ten.{ten_numbers}
use Rattle.pass_answers.specs.Numbers.{numbers_of, leaves}
use Rattle.pass_input.proofs.Copied.{take_sets}
use Rattle.machine_claim.proofs.Answered.{with_room}
use Rattle.pass.specs.Promise.{Lowers}
use Rattle.text_lines.specs.Lines.{answer_lines, lowered_lines}
use Rattle.text_lines.proofs.Laws.{answer_refused, answer_lowered}
use Rattle.bytes_text.proofs.Laws.{cause_told}
use Rattle.pass_text.specs.Text.{text_of}

-- the number that tells a refusal from what is accepted
told : Outcome → ℕ
told (Outcome.refused n o) = n
told (Outcome.lowered w c bytes) = 1

telling : Answer → ℕ
telling (refused n o) = n
telling (lowered w c k bytes) = 1

-- no refusal has number 0
told_fitted : (room : ℕ) (w : Rewritten) (bytes : List ℕ) → told (fitted_in room w bytes) ≡ 0 → ⊥
unfolding fitted_in told
told_fitted room w bytes = go (ltb room (length bytes))
  where
    go : (b : Bool) → told (cond b (Outcome.refused 11 0) (Outcome.lowered w.changed w.counts bytes)) ≡ 0 → ⊥
    go true e = omega arith
    go false e = omega arith

told_rewritten : (room : ℕ) (w : Rewritten) (r : Routine) → told (rewritten room w r) ≡ 0 → ⊥
unfolding rewritten unless told
told_rewritten room w r = go w.fault
  where
    go : (o : Option Fault) → told (unless o (fitted_in room w (encode (rewrite_with w r)))) ≡ 0 → ⊥
    go (some Fault.Clash) e = omega arith
    go (some Fault.Looped) e = omega arith
    go (some Fault.Overfull) e = omega arith
    go none e = told_fitted room w (encode (rewrite_with w r)) e

told_input : (σ : Settings) (room : ℕ) (d : Parse Routine) → told (of_input σ room d) ≡ 0 → ⊥
unfolding of_input told
told_input σ room (bad c o) e = cause_told c e
told_input σ room (ok r n) e = told_rewritten room (rewritten_blocks σ r) r e

told_outcome : (σ : Settings) (room : ℕ) (s : List ℕ) → told (outcome σ room s) ≡ 0 → ⊥
unfolding outcome told
told_outcome σ room s = go (ltb 16 σ.most)
  where
    go : (b : Bool) → told (cond b (Outcome.refused 12 0) (of_input σ room (whole_of mosts s))) ≡ 0 → ⊥
    go true e = omega arith
    go false e = told_input σ room (whole_of mosts s) e

-- the reason does not change it
told_reason : (k : ℕ) (o : Outcome) → told o ≡ telling (with_reason k o)
unfolding told telling with_reason
told_reason k (Outcome.refused n o) = refl
told_reason k (Outcome.lowered w c bytes) = refl

told_answer : (σ : Settings) (room : ℕ) (s : List ℕ) → telling (answer σ room s) ≡ 0 → ⊥
unfolding answer
told_answer σ room s e = told_outcome σ room s (told_reason (reason_of σ (whole_of mosts s)) (outcome σ room s) ∙ e)

-- the text of an answer, from its numbers and the output that it leaves
text_of_lem : (σ : Settings) (s out : List ℕ) (a : Answer) → answer σ (length out) s ≡ a → answer_lines (sets (replicate 10 0) 0 (ten_numbers (numbers_of a))) (leaves a out) ≡ text_of a
unfolding text_of telling
text_of_lem σ s out (refused n o) e = sym (answer_refused (sets (replicate 10 0) 0 (ten_numbers (numbers_of (refused n o)))) out (λ z. told_answer σ (length out) s (ap telling e ∙ z)))
text_of_lem σ s out (lowered w c k bytes) e =
    let ns : List ℕ = ten_numbers (numbers_of (lowered w c k bytes)) in
    sym (answer_lowered ns (sets out 0 bytes) refl) ∙ ap (lowered_lines (take 7 (drop 2 ns))) (take_sets bytes out (with_room σ (length out) s w c k bytes e))

-- what a call gives
pub lines_of : (σ : Settings) (s out out' numbers' : List ℕ) → Lowers σ s out out' (replicate 10 0) numbers' → answer_lines numbers' out' ≡ text_of (answer σ (length out) s)
lines_of σ s out out' numbers' h = rw (h.says, h.left) (text_of_lem σ s out (answer σ (length out) s) refl)
