-- The entries keep their promises.
use Prim.Native.Nat.{ℕ}
use mathlib.Core.Path.{◌≡◌, refl, ap, ◌∙◌}
use mathlib.Core.List.{List}
use mathlib.Core.Bool.{Bool}
use lib.ListN.{length, take}
use lib.Seq.{sets}
use Rattle.bytes_wire.specs.WellFormed.{Bytes}
use Rattle.fold.specs.declared.Settings.{Settings}
use Rattle.rewrite.specs.declared.Counts.{Counts}
use Rattle.rewrite_laws.specs.Lifted.{lifted}
use Rattle.shelf.specs.Answer.{lowered, answer as given}
use Rattle.pass_numbers.specs.declared.Numbers.{Numbers}
use Rattle.pass_numbers.specs.declared.Totals.{Totals}
use Rattle.pass_numbers.specs.Ten.{ten_numbers, eleven_numbers}
use Rattle.pass_numbers.proofs.Laws.{Fit}
use Rattle.std.specs.Prelude.{Result, Ok, Err}
use Rattle.pass_answers.specs.declared.Lowered.{Lowered}
use Rattle.pass_answers.specs.declared.Refused.{Refused}
use Rattle.pass_answers.specs.Numbers.{numbers_of, leaves, as_answer, Answers}
use Rattle.pass_answers.specs.Totals.{after_answer}
use Rattle.pass_answers.proofs.Laws.{as_given}
use Rattle.pass_input.proofs.Copied.{take_sets}
use Rattle.machine.specs.Meaning.{Meaning}
use Rattle.machine_claim.specs.Claim.{Indistinguishable}
use Rattle.machine_claim.proofs.Answered.{with_room}
use Rattle.machine_claim.proofs.Theorem.{indistinguishable}
use Rattle.pass_lasting.specs.Lasting.{WellTyped}
use Rattle.pass_lasting.proofs.Theorem.{well_typed}
use Rattle.pass.specs.Promise.{Output, Lowers, LowersWith, Counted}

-- the output begins with the rewritten routine
stands : (σ : Settings) (s out out' : List ℕ) (w : Bool) (c : Counts) (k : ℕ) (bytes : List ℕ) → given σ (length out) s ≡ lowered w c k bytes → out' ≡ leaves (given σ (length out) s) out → take (length bytes) out' ≡ bytes
stands σ s out out' w c k bytes e f = ap (take (length bytes)) (f ∙ ap (λ o. leaves o out) e) ∙ take_sets bytes out (with_room σ (length out) s w c k bytes e)

-- demand 3, for scalars of any type
unseen : {A : Type 0} (σ : Settings) (s out out' : List ℕ) → Bytes s → out' ≡ leaves (given σ (length out) s) out → (w : Bool) (c : Counts) (bytes : List ℕ) → given σ (length out) s ≡ lowered w c 0 bytes → (M : Meaning A) → Indistinguishable (lifted σ) M s (take (length bytes) out')
unseen σ s out out' b f w c bytes e M = rw (stands σ s out out' w c 0 bytes e f) (indistinguishable M σ (length out) s w c 0 bytes b e refl)

-- wish 12
lasting : (σ : Settings) (s out out' : List ℕ) → Bytes s → out' ≡ leaves (given σ (length out) s) out → (w : Bool) (c : Counts) (k : ℕ) (bytes : List ℕ) → given σ (length out) s ≡ lowered w c k bytes → (k ≡ 1 → ⊥) → WellTyped (lifted σ) k (take (length bytes) out')
lasting σ s out out' b f w c k bytes e n = rw (stands σ s out out' w c k bytes e f) (well_typed σ (length out) s w c k bytes b e n)

-- so both are promised of what stands in the output
output : (σ : Settings) (s out out' : List ℕ) → Bytes s → out' ≡ leaves (given σ (length out) s) out → Output σ s out out'
output σ s out out' b f = record { unseen = unseen σ s out out' b f; lasting = lasting σ s out out' b f }

-- so it follows from what the entries promise
pub for_every_meaning_with : {A : Type 0} {σ : Settings} {input out out' page page' numbers numbers' : List ℕ} → Bytes input → LowersWith σ input out out' page page' numbers numbers' → (w : Bool) (c : Counts) (bytes : List ℕ) → given σ (length out) input ≡ lowered w c 0 bytes → (M : Meaning A) → Indistinguishable (lifted σ) M input (take (length bytes) out')
for_every_meaning_with {A} {σ} {input} {out} {out'} b h = unseen σ input out out' b h.left

pub for_every_meaning : {A : Type 0} {σ : Settings} {input out out' numbers numbers' : List ℕ} → Bytes input → Lowers σ input out out' numbers numbers' → (w : Bool) (c : Counts) (bytes : List ℕ) → given σ (length out) input ≡ lowered w c 0 bytes → (M : Meaning A) → Indistinguishable (lifted σ) M input (take (length bytes) out')
for_every_meaning {A} {σ} {input} {out} {out'} b h = unseen σ input out out' b h.left

-- the answer's numbers are those that are given
pub lowers : (σ σ' : Settings) (s out out' numbers numbers' : List ℕ) (r : Result Lowered Refused) (n : Numbers) → Bytes s → given σ' (length out) s ≡ given σ (length out) s → Answers (given σ' (length out) s) r out out' → n ≡ as_answer r → numbers' ≡ sets numbers 0 (ten_numbers n) → Lowers σ s out out' numbers numbers'
lowers σ σ' s out out' numbers numbers' r n b e h q f =
    let left : out' ≡ leaves (given σ (length out) s) out = h.left ∙ ap (λ x. leaves x out) e in
    record {
      says = f ∙ ap (λ n. sets numbers 0 (ten_numbers n)) (q ∙ h.says ∙ ap numbers_of e);
      left = left;
      output = output σ s out out' b left;
    }

pub lowers_with : (σ σ' : Settings) (s out out' page page' numbers numbers' : List ℕ) (r : Result Lowered Refused) (n : Numbers) → Bytes s → given σ' (length out) s ≡ given σ (length out) s → Answers (given σ' (length out) s) r out out' → n ≡ as_answer r → numbers' ≡ sets numbers 0 (eleven_numbers n) → page' ≡ page → LowersWith σ s out out' page page' numbers numbers'
lowers_with σ σ' s out out' page page' numbers numbers' r n b e h q f u =
    let left : out' ≡ leaves (given σ (length out) s) out = h.left ∙ ap (λ x. leaves x out) e in
    record {
      says = f ∙ ap (λ n. sets numbers 0 (eleven_numbers n)) (q ∙ h.says ∙ ap numbers_of e);
      left = left;
      untouched = u;
      output = output σ s out out' b left;
    }

-- and so are the totals
pub counted : (σ : Settings) (s out out' : List ℕ) (r : Result Lowered Refused) (t t' : Totals) → Bytes s → Fit t → Answers (given σ (length out) s) r out out' → t' ≡ after_answer t r → Counted σ s out out' r t t'
counted σ s out out' r t t' b f h e = record { answers = h; counted = as_given (given σ (length out) s) r out out' t t' f h e; output = output σ s out out' b h.left }
