-- What one run adds to the totals of its caller.
use Rattle.std.specs.Prelude.{Result, Ok, Err}
use Rattle.shelf.specs.Answer.{Answer as Given, refused, lowered}
use Rattle.pass_numbers.specs.declared.Totals.{Totals}
use Rattle.pass_numbers.specs.Totals.{with_counts}
use Rattle.pass_answers.specs.declared.Lowered.{Lowered}
use Rattle.pass_answers.specs.declared.Refused.{Refused}

-- the totals after what is given: a refusal counts nothing
unfoldable pub totals_after : Totals → Given → Totals
totals_after t (refused n o) = t
totals_after t (lowered w c k bytes) = with_counts t c

-- the same, of what the code answers
abbrev pub after_answer : Totals → Result Lowered Refused → Totals
after_answer t (Err r) = t
after_answer t (Ok l) = with_counts t l.counts
