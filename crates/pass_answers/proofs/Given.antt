-- What is given of an input: 12, a refusal of the reader, or a result with its reason.
use Prim.Native.Nat.{ℕ, ◌≤◌, ◌<◌}
use mathlib.Core.Path.{◌≡◌, refl}
use mathlib.Core.List.{List}
use mathlib.Core.Bool.{Bool}
use lib.ListN.{length}
use Rattle.bytes_wire.specs.Parse.{ok, bad, number_of_cause}
use Rattle.bytes_wire.specs.declared.Refusal.{Refusal}
use Rattle.mir.specs.Routine.{Routine}
use Rattle.bytes_sections.specs.Decode.{mosts, whole_of}
use Rattle.fold.specs.declared.Settings.{Settings}
use Rattle.rewrite.specs.declared.Counts.{Counts}
use Rattle.rewrite.specs.Run.{rewritten_blocks}
use Rattle.rewrite.specs.Outcome.{outcome}
use Rattle.rewrite.specs.Outcome as O
use Rattle.rewrite.proofs.Outcomes.{too_large, refused_input}
use Rattle.shelf.specs.Reads.{with_debug}
use Rattle.shelf.specs.Reason.{shelf_reason}
use Rattle.shelf.specs.Answer.{refused, lowered, reason_of, with_reason, answer as given}
use Rattle.pass_numbers.proofs.Laws.{given_refused}
use Rattle.std.specs.Prelude.{Err}
use Rattle.pass_answers.specs.declared.Refused.{Refused}
use Rattle.pass_answers.specs.Numbers.{Answers}
use Rattle.pass_answers.proofs.Laws.{answers}

pub given_lowered : (σ : Settings) (room : ℕ) (s : List ℕ) (x : Routine) (n k : ℕ) (w : Bool) (c : Counts) (bytes : List ℕ) → whole_of mosts s ≡ ok x n → k ≡ shelf_reason with_debug x (rewritten_blocks σ x) → outcome σ room s ≡ O.lowered w c bytes → given σ room s ≡ lowered w c k bytes
unfolding given with_reason reason_of
given_lowered σ room s x n k w c bytes e f g = rw (e, g, f)

pub answers_large : (σ : Settings) (s out : List ℕ) → 16 < σ.most → Answers (given σ (length out) s) (Err Refused.TooLarge) out out
answers_large σ s out h = answers _ (refused 12 0) _ out out (given_refused σ (length out) s 12 0 (too_large σ (length out) s h)) refl refl

pub answers_input : (σ : Settings) (s out : List ℕ) (r : Refusal) → σ.most ≤ 16 → whole_of mosts s ≡ bad r.cause r.offset → Answers (given σ (length out) s) (Err (Refused.Malformed r)) out out
answers_input σ s out r h e = answers _ (refused (number_of_cause r.cause) r.offset) _ out out (given_refused σ (length out) s (number_of_cause r.cause) r.offset (refused_input σ (length out) s h r.cause r.offset e)) refl refl
