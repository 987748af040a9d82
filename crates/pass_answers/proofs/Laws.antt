-- What the code answers counts as what is given.
use Prim.Native.Nat.{ℕ}
use mathlib.Core.Path.{◌≡◌, refl, sym, ap, ◌∙◌}
use mathlib.Core.List.{List}
use Rattle.rewrite.specs.declared.Counts.{Counts}
use Rattle.shelf.specs.Answer.{Answer as Given, refused, lowered}
use Rattle.pass_numbers.specs.declared.Numbers.{Numbers}
use Rattle.pass_numbers.specs.declared.Totals.{Totals}
use Rattle.pass_numbers.specs.Totals.{with_counts}
use Rattle.pass_numbers.proofs.Laws.{Fit, with_none}
use Rattle.std.specs.Prelude.{Result, Ok, Err, MatchResult}
use Rattle.pass_answers.specs.declared.Lowered.{Lowered}
use Rattle.pass_answers.specs.declared.Refused.{Refused}
use Rattle.pass_answers.specs.Numbers.{numbers_of, leaves, as_answer, Answers}
use Rattle.pass_answers.specs.Totals.{totals_after, after_answer}

pub answers : (o o' : Given) (r : Result Lowered Refused) (out out' : List ℕ) → o ≡ o' → as_answer r ≡ numbers_of o' → out' ≡ leaves o' out → Answers o r out out'
answers o o' r out out' e f g = rw e (record { says = f; left = g })

-- a refusal counts nothing, and what is not refused its counts
pub after_either : (t : Totals) (r : Result Lowered Refused) (t' : Totals) → MatchResult r (λ l. t' ≡ with_counts t l.counts) (λ _. t' ≡ t) → t' ≡ after_answer t r
after_either t (Ok l) t' h = h
after_either t (Err r) t' h = h

-- the counts among an answer's numbers
abbrev counts_in : Numbers → Counts
counts_in n = let c = n.counts in record { builds = c.builds; extracts = c.extracts; inserts = c.inserts; assigns = c.assigns; materializations = c.materializations }

by_answer : (t : Totals) → Fit t → (r : Result Lowered Refused) → after_answer t r ≡ with_counts t (counts_in (as_answer r))
by_answer t f (Err (Refused.Malformed r)) = sym (with_none t f)
by_answer t f (Err (Refused.Faulty x)) = sym (with_none t f)
by_answer t f (Err Refused.NoRoom) = sym (with_none t f)
by_answer t f (Err Refused.TooLarge) = sym (with_none t f)
by_answer t f (Ok l) = refl

by_given : (t : Totals) → Fit t → (o : Given) → totals_after t o ≡ with_counts t (counts_in (numbers_of o))
unfolding totals_after
by_given t f (refused n o) = sym (with_none t f)
by_given t f (lowered w c k bytes) = refl

pub as_given : (o : Given) (r : Result Lowered Refused) (out out' : List ℕ) (t t' : Totals) → Fit t → Answers o r out out' → t' ≡ after_answer t r → t' ≡ totals_after t o
as_given o r out out' t t' f h e = e ∙ by_answer t f r ∙ ap (λ n. with_counts t (counts_in n)) h.says ∙ sym (by_given t f o)
