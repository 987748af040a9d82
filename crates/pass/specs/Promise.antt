-- What a call of the entry promises: document 01's three demands and what wish 12 of document 02 asks, one record for each entry.
use Rattle.std.specs.Prelude.{ℕ, ◌≡◌, List, Bool, length, take}
use Rattle.std.proofs.lemmas.List.Edits.{sets}
use Rattle.fold.specs.declared.Settings.{Settings}
use Rattle.rewrite.specs.declared.Counts.{Counts}
use Rattle.rewrite_laws.specs.Lifted.{lifted}
use Rattle.shelf.specs.Answer.{lowered, answer}
use Rattle.pass_numbers.specs.declared.Totals.{Totals}
use Rattle.pass_numbers.specs.Ten.{ten_numbers, eleven_numbers}
use Rattle.std.specs.Prelude.{Result}
use Rattle.pass_answers.specs.declared.Lowered.{Lowered}
use Rattle.pass_answers.specs.declared.Refused.{Refused}
use Rattle.pass_answers.specs.Numbers.{numbers_of, leaves, Answers}
use Rattle.pass_answers.specs.Totals.{totals_after}
use Rattle.machine.specs.Meaning.{Meaning}
use Rattle.machine_claim.specs.Claim.{Indistinguishable}
use Rattle.pass_lasting.specs.Lasting.{WellTyped}

-- demand 3: with shelf reason 0, whoever runs what now stands in the output cannot tell it from the input, by the Debug record either; the
-- meaning is any, one that records Debug or one that does not. Scalars are numbered here, since a contract speaks of no collection of all
-- types; `for_every_meaning` (proofs/Entry.antt) has scalars of any type
abbrev pub Unseen : Settings → List ℕ → List ℕ → List ℕ → Type 0
Unseen σ input out out' =
    (w : Bool) (c : Counts) (bytes : List ℕ)
    → answer σ (length out) input ≡ lowered w c 0 bytes
    → (M : Meaning ℕ)
    → Indistinguishable (lifted σ) M input (take (length bytes) out')

-- wish 12: a routine that is not of reason 1 leaves one that is not, and one that is not of reason 2 either one of neither, as a call
-- judges them. Nothing is said of reasons 3 to 5 of what is left
abbrev pub Lasting : Settings → List ℕ → List ℕ → List ℕ → Type 0
Lasting σ input out out' =
    (w : Bool) (c : Counts) (k : ℕ) (bytes : List ℕ)
    → answer σ (length out) input ≡ lowered w c k bytes
    → (k ≡ 1 → ⊥)
    → WellTyped (lifted σ) k (take (length bytes) out')

-- what every entry promises of the routine that stands in the output after it
pub record Output (σ : Settings) (input out out' : List ℕ) : Type 0 where
  pub unseen : Unseen σ input out out'
  pub lasting : Lasting σ input out out'

-- a call for any caller: of the input, of the output before and after it, and of the caller's numbers before and after it
pub record Lowers (σ : Settings) (input out out' numbers numbers' : List ℕ) : Type 0 where
  -- demands 1 and 2: numbers and output are those that the definition answers
  pub says : numbers' ≡ sets numbers 0 (ten_numbers (numbers_of (answer σ (length out) input)))
  pub left : out' ≡ leaves (answer σ (length out) input) out
  pub output : Output σ input out out'

-- a call with choices: the same under either edition, with eleven numbers; no page is made yet, and the lent one stays as it is
pub record LowersWith (σ : Settings) (input out out' page page' numbers numbers' : List ℕ) : Type 0 where
  pub says : numbers' ≡ sets numbers 0 (eleven_numbers (numbers_of (answer σ (length out) input)))
  pub left : out' ≡ leaves (answer σ (length out) input) out
  pub untouched : page' ≡ page
  pub output : Output σ input out out'

-- a call that updates the totals of its caller: "the five counts are one record that the run updates for its caller"
pub record Counted (σ : Settings) (input out out' : List ℕ) (r : Result Lowered Refused) (t t' : Totals) : Type 0 where
  pub answers : Answers (answer σ (length out) input) r out out'
  pub counted : t' ≡ totals_after t (answer σ (length out) input)
  pub output : Output σ input out out'
