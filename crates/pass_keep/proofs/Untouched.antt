-- The answer for a routine that is not changed.
use Prim.Native.Nat.{ℕ, zero, suc, ◌+◌, ◌-◌, ◌≤◌, ◌<◌}
use mathlib.Core.Path.{◌≡◌, refl, ap, ◌∙◌, sym}
use mathlib.Core.List.{List}
use mathlib.Core.Bool.{Bool, false, not}
use mathlib.Core.Option.{none}
use native.Mathlib.Nat.{le_refl}
use native.Mathlib.Omega.{arith}
use lib.ListN.{length, get_or, take}
use lib.Seq.{sets, get_or-take}
use Rattle.mir.specs.Syntax.{Block}
use Rattle.bytes_field.specs.declared.Bounds.{Bounds}
use Rattle.bytes_index.specs.Table.{starts_in}
use Rattle.bytes_index.specs.Code.{no_block, CodeIn}
use Rattle.mir.specs.Routine.{Routine}
use Rattle.bytes_sections.specs.Encode.{encode}
use Rattle.fold.specs.declared.Edition.{Edition}
use Rattle.fold.specs.declared.Settings.{Settings}
use Rattle.fold_choose.specs.Chosen.{Buildless}
use Rattle.rewrite.specs.Piece.{no_counts}
use Rattle.rewrite.specs.Run.{Rewritten, choice, rewritten_blocks, rewrite}
use Rattle.rewrite.proofs.Unchanged.{untouched_blocks, unchanged}
use Rattle.rewrite.proofs.Outcomes.{unchanged_result, too_long, accepted_unchanged}
use Rattle.rewrite_progress.specs.Chosen.{Follows}
use Rattle.shelf.specs.Lists.{among}
use Rattle.shelf.specs.Answer.{answer as given, refused, lowered}
use Rattle.shelf_test.specs.declared.ShelfReason.{ShelfReason}
use Rattle.shelf_test.specs.Number.{number_of_reason}
use Rattle.shelf_test.specs.Shelved.{input_reason}
use Rattle.shelf_test.proofs.Reasons.{reason_undropped}
use Rattle.pass_numbers.proofs.Laws.{given_refused}
use Rattle.std.specs.Prelude.{Result, Err, ⊤}
use Rattle.pass_answers.specs.declared.Lowered.{Lowered}
use Rattle.pass_answers.specs.declared.Refused.{Refused}
use lib.Dec.{eqb}
use Rattle.pass_answers.specs.Numbers.{acceptance, as_answer, Answers}
use Rattle.pass_answers.proofs.Laws.{answers}
use Rattle.pass_input.specs.Accepted.{Accepted, Chosen, Unchanged}
use Rattle.pass_input.proofs.Accepted.{canon, none_faulty}
use Rattle.pass_answers.proofs.Given.{given_lowered}
use Rattle.pass_keep.proofs.Still.{still}

-- a routine without builds comes out as it is
pub same_buildless : {σ : Settings} {s facts : List ℕ} {b : Bounds} (a : Accepted s facts b) → σ.most ≤ 16 → ((k : ℕ) → k < length a.routine.blocks → Buildless (get_or a.routine.blocks k no_block).instructions) → Unchanged σ s facts b
same_buildless {σ} a l h = record { accepted = a; small = l; still = still σ a.routine (λ k j d m n p e. absurd (h k m j d p e)) }

pub chosen : {σ : Settings} {s facts : List ℕ} {b : Bounds} {flags : List Bool} (a : Accepted s facts b) → σ.most ≤ 16 → Follows (choice σ a.routine) facts flags a.routine.blocks → Chosen σ s facts b flags
chosen a l f = record { accepted = a; small = l; follows = f }

-- an instruction's slot is one of the table's
slots_rise : {b : Bounds} {s facts : List ℕ} {ks : List Block} → CodeIn b s facts ks → (n k : ℕ) → k + n ≡ length ks → get_or (starts_in facts) k 0 ≤ get_or (starts_in facts) (length ks) 0
slots_rise {facts = facts} {ks = ks} c zero k e = let z : k ≡ length ks = omega arith in rw z (le_refl (get_or (starts_in facts) (length ks) 0))
slots_rise c (suc n) k e = omega (arith, c.next k (omega arith), slots_rise c n (suc k) (omega arith))

slot_low : {b : Bounds} {s facts : List ℕ} {ks : List Block} → CodeIn b s facts ks → (k j : ℕ) → k < length ks → j < length (get_or ks k no_block).instructions → get_or (starts_in facts) k 0 + j < 288
slot_low {ks = ks} c k j l h = omega (arith, c.next k l, slots_rise c (length ks - suc k) (suc k) (omega arith), c.within)

-- and so does one of which no flag of a slot stands
pub same_chosen : {σ : Settings} {s facts : List ℕ} {b : Bounds} {flags : List Bool} (h : Chosen σ s facts b flags) → ((v : ℕ) → get_or (take 288 flags) v false ≡ false) → Unchanged σ s facts b
same_chosen {σ} {facts = facts} {flags = flags} h f =
    let a = h.accepted in
    let clear : (v : ℕ) → v < 288 → get_or flags v false ≡ false = λ v l. sym (get_or-take 288 flags v false l) ∙ f v in
    record { accepted = a; small = h.small; still = still σ a.routine (λ k j d m n p e. sym (h.follows.fold k j d m n p e) ∙ clear (get_or (starts_in facts) k 0 + j) (slot_low a.facts_of.code k j m p)) }

module _ {σ : Settings} {s facts : List ℕ} {b : Bounds} (u : Unchanged σ s facts b) (out : List ℕ) where
  abbrev x : Routine
  x = u.accepted.routine

  calm : (rewritten_blocks σ x).fault ≡ none
  calm = none_faulty u.accepted σ u.still

  untouched : rewritten_blocks σ x ≡ untouched_blocks x.blocks (rewritten_blocks σ x).fault
  untouched = unchanged_result σ x u.still

  -- where the input is longer than the output
  pub same_long : length out < length s → Answers (given σ (length out) s) (Err Refused.NoRoom) out out
  same_long l =
      let e : encode (rewrite σ x) ≡ s = ap encode (unchanged σ x u.still) ∙ canon u.accepted in
      answers _ (refused 11 0) _ out out (given_refused σ (length out) s 11 0 (too_long σ (length out) s u.small x u.accepted.used u.accepted.reads calm (rw e l))) refl refl

  none_dropped : (v : ℕ) → among v (rewritten_blocks σ x).dropped ≡ false
  none_dropped v = ap (λ (w : Rewritten). among v w.dropped) untouched

  -- where it has room
  pub same_written : length s ≤ length out → (k : Result ⊤ ShelfReason) → number_of_reason k ≡ input_reason x → (r : Result Lowered Refused) → as_answer r ≡ acceptance false no_counts (number_of_reason k) (length s) → (out' : List ℕ) → out' ≡ sets out 0 s → Answers (given σ (length out) s) r out out'
  same_written l k ek r er out' eo =
      let e : encode x ≡ s = canon u.accepted in
      answers _ (lowered false no_counts (number_of_reason k) (encode x)) r out out'
      (given_lowered σ (length out) s x u.accepted.used (number_of_reason k) false no_counts (encode x) u.accepted.reads (reason_undropped x (rewritten_blocks σ x) (number_of_reason k) ek none_dropped) (accepted_unchanged σ (length out) s u.small x u.accepted.used u.accepted.reads calm u.still (rw e l)))
      (rw e er) (rw e eo)

-- default counts are no counts
pub counts_none : (b e i s m k n : ℕ) → b ≡ 0 → e ≡ 0 → i ≡ 0 → s ≡ 0 → m ≡ 0 → acceptance (not (eqb b 0)) (record { builds = b; extracts = e; inserts = i; assigns = s; materializations = m }) k n ≡ acceptance false no_counts k n
counts_none b e i s m k n x₁ x₂ x₃ x₄ x₅ = rw (x₁, x₂, x₃, x₄, x₅) refl
