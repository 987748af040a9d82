-- What a call answers, as numbers, and what it leaves in the output.
use Rattle.std.specs.Prelude.{ℕ, ◌≡◌, List, Bool, not, eqb, length, Result, Ok, Err}
use Rattle.std.proofs.lemmas.List.Edits.{sets}
use Rattle.bytes_wire.specs.Parse.{number_of_cause}
use Rattle.bytes_wire.specs.Value.{bool_byte}
use Rattle.rewrite.specs.declared.Counts.{Counts}
use Rattle.rewrite.specs.Fault.{number_of_fault}
use Rattle.shelf.specs.Answer.{Answer as Given, refused, lowered}
use Rattle.shelf_test.specs.Number.{number_of_reason}
use Rattle.pass_numbers.specs.declared.Numbers.{Numbers}
use Rattle.pass_numbers.specs.Totals.{totals_of, no_totals}
use Rattle.pass_answers.specs.declared.Lowered.{Lowered}
use Rattle.pass_answers.specs.declared.Refused.{Refused}

-- a refusal: its number and its offset
abbrev pub refusal : ℕ → ℕ → Numbers
refusal n o = record { number = n; offset = o; result = 0; counts = no_totals; reason = 0; size = 0 }

-- what is not refused: the result, the counts, the shelf reason and the size
abbrev pub acceptance : Bool → Counts → ℕ → ℕ → Numbers
acceptance w c k n = record { number = 0; offset = 0; result = bool_byte w; counts = totals_of c; reason = k; size = n }

abbrev pub numbers_of : Given → Numbers
numbers_of (refused n o) = refusal n o
numbers_of (lowered w c k bytes) = acceptance w c k (length bytes)

-- a refusal leaves the output as it was; else the bytes stand from its first place on
abbrev pub leaves : Given → List ℕ → List ℕ
leaves (refused n o) out = out
leaves (lowered w c k bytes) out = sets out 0 bytes

-- the documents' number and values of each answer of the code
abbrev pub as_refusal : Refused → Numbers
as_refusal (Refused.Malformed r) = refusal (number_of_cause r.cause) r.offset
as_refusal (Refused.Faulty f) = refusal (number_of_fault f) 0
as_refusal Refused.NoRoom = refusal 11 0
as_refusal Refused.TooLarge = refusal 12 0

abbrev pub as_answer : Result Lowered Refused → Numbers
as_answer (Err r) = as_refusal r
as_answer (Ok l) = acceptance (not (eqb l.counts.builds 0)) l.counts (number_of_reason l.reason) l.size

-- the code answers what is given, and leaves what it should
pub record Answers (o : Given) (r : Result Lowered Refused) (out out' : List ℕ) : Type 0 where
  pub says : as_answer r ≡ numbers_of o
  pub left : out' ≡ leaves o out
