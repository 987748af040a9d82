-- What the code answers is the outcome of the call.
use Prim.Native.Nat.{ℕ, ◌+◌, ◌-◌, ◌≤◌, ◌<◌}
use mathlib.Core.Path.{◌≡◌, refl, ap, ◌∙◌, sym}
use mathlib.Core.List.{List, ◌++◌, append_assoc}
use mathlib.Core.Bool.{Bool, false, not}
use mathlib.Core.Option.{some}
use native.Mathlib.Nat.{zero-add}
use native.Mathlib.Omega.{arith}
use lib.ListN.{length, get_or, take, drop, replicate, length-append, length-drop}
use lib.Seq.{sets, length-sets, take_all}
use lib.Dec.{eqb}
use Rattle.bytes_field.specs.declared.Bounds.{Bounds}
use Rattle.bytes_index.specs.Table.{recorded_in}
use Rattle.bytes_emit.proofs.Sets.{sets_append}
use Rattle.mir.specs.Routine.{Routine}
use Rattle.bytes_sections.specs.Encode.{encode}
use Rattle.fold.specs.declared.Settings.{Settings}
use Rattle.fold.specs.Family.{Marks}
use Rattle.rewrite.specs.declared.Counts.{Counts}
use Rattle.rewrite.specs.Run.{Rewritten, choice, rewritten_blocks, rewrite_with, rewrite}
use Rattle.mir.specs.Lookup.{types_in}
use Rattle.rewrite.specs.Outcome.{outcome}
use Rattle.rewrite.specs.Outcome as O
use Rattle.rewrite.proofs.Bound.{block_count}
use Rattle.rewrite.proofs.Outcomes.{faulty, too_long, accepted}
use Rattle.rewrite.proofs.Result.{result_count}
use Rattle.bytes_emit.specs.Written.{Writes}
use Rattle.rewrite_progress.specs.Effect.{type_numbers as fresh_numbers, Low, PutLow}
use Rattle.rewrite_progress.specs.declared.Progress.{Progress}
use Rattle.rewrite_progress.specs.declared.Run.{Run}
use Rattle.rewrite_progress.proofs.Laws.{numbers_length}
use Rattle.rewrite_head.specs.Head.{head_bytes, Tabled}
use Rattle.rewrite_opening.specs.Opens.{Opens}
use Rattle.shelf.specs.Reads.{with_debug}
use Rattle.shelf.specs.Reason.{shelf_reason}
use Rattle.shelf.specs.Answer.{refused, lowered, answer as given}
use Rattle.shelf_test.specs.declared.ShelfReason.{ShelfReason}
use Rattle.shelf_test.specs.Number.{number_of_reason}
use Rattle.shelf_test.specs.Shelved.{Shelved}
use Rattle.pass_numbers.proofs.Laws.{given_refused}
use Rattle.std.specs.Prelude.{Result, Ok, Err, ⊤}
use Rattle.rewrite.specs.declared.Fault.{Fault}
use Rattle.rewrite.specs.Fault.{number_of_fault}
use Rattle.pass_answers.specs.declared.Lowered.{Lowered}
use Rattle.pass_answers.specs.declared.Refused.{Refused}
use Rattle.pass_answers.specs.Numbers.{acceptance, as_answer, Answers}
use Rattle.pass_answers.proofs.Laws.{answers}
use Rattle.pass_input.specs.Accepted.{AcceptedCode, Chosen, ChosenRun}
use Rattle.pass_input.proofs.Accepted.{next_is, next_few, recorded_many, canon, types_end, few_values}
use Rattle.pass_answers.proofs.Given.{given_lowered}
use Rattle.pass_shelf.proofs.Shelf.{shelved}
use Rattle.pass_blocks.specs.Runs.{body_of, Runs, Begun, row_places}
use Rattle.pass_input.proofs.Copied.{take_sets}
use Rattle.pass_write.specs.declared.Trial.{Trial}
use Rattle.pass_write.specs.Written.{longest_head, head_of, Roomy, Measured, Headed}

-- the types of the fresh numbers are all that stands behind the rows
pub fresh_part : (work : List ℕ) → take (length work - row_places) (drop row_places work) ≡ drop row_places work
fresh_part work = take_all (length work - row_places) (drop row_places work) (omega (arith, length-drop row_places work))

-- ## The bytes

encode_split : (w : Rewritten) (r : Routine) → length w.blocks ≡ length r.blocks → encode (rewrite_with w r) ≡ head_of r w ++ body_of w
unfolding encode head_bytes rewrite_with
encode_split w r e = rw e (simp (append_assoc))

-- as many blocks as before
as_many : (σ : Settings) (r : Routine) → length (rewritten_blocks σ r).blocks ≡ length r.blocks
unfolding rewritten_blocks
as_many σ r = block_count σ (types_in r) (choice σ r) r.next r.blocks

-- what stands before the blocks, and the blocks
rewritten_bytes : (σ : Settings) (r : Routine) → encode (rewrite σ r) ≡ head_of r (rewritten_blocks σ r) ++ body_of (rewritten_blocks σ r)
unfolding rewrite
rewritten_bytes σ r = encode_split (rewritten_blocks σ r) r (as_many σ r)

-- a run that went through takes fresh numbers that have their places
pub fresh_within : (run : Run) (work : List ℕ) (h : Roomy run work) {to : ℕ} {out fresh out' fresh' : List ℕ} {dropped dropped' : Marks} {r : Result Progress Fault} {p : Progress}
    → Runs (rewritten_blocks run.settings h.chosen.accepted.routine) to out fresh dropped out' fresh' dropped' r
    → r ≡ Ok p
    → row_places + p.fresh ≤ length work
fresh_within run work h {p = p} q e = omega (arith, (q.went p e).many, h.room (q.went p e).calm)

-- a run into a buffer measures
pub measured : (run : Run) (trial : Trial) (work : List ℕ) (h : Roomy run work) (buffer table : List ℕ) (r : Result Progress Fault)
    → PutLow 4300 r
    → Runs (rewritten_blocks run.settings h.chosen.accepted.routine) 0 buffer (drop row_places work) (replicate 256 false) trial.body.now table trial.dropped.now r
    → r ≡ Ok trial.progress
    → trial.fresh.now ≡ take trial.progress.fresh table
    → Measured run trial
measured run trial work h buffer table r low q e f =
    let k : Low 4300 trial.progress = rw e at low in
    let n = q.went trial.progress e in
    let l : length (rewritten_blocks run.settings h.chosen.accepted.routine).fresh ≤ length (drop row_places work) = omega (arith, h.room n.calm, length-drop row_places work) in
    record { chosen = h.chosen; buffer = buffer; zeros = drop row_places work; table = table; room = l; ran = n; fresh = f; low = omega (arith, k.to, k.fresh) }

-- ## The answer

module _ {σ : Settings} {s facts : List ℕ} {b : Bounds} {flags : List Bool} (h : Chosen σ s facts b flags) (out : List ℕ) where
  pub answers_fault : (f : Fault) → (rewritten_blocks σ h.accepted.routine).fault ≡ some f → Answers (given σ (length out) s) (Err (Refused.Faulty f)) out out
  answers_fault f e = answers _ (refused (number_of_fault f) 0) _ out out (given_refused σ (length out) s (number_of_fault f) 0 (faulty σ (length out) s h.small h.accepted.routine h.accepted.used h.accepted.reads f e)) refl refl

-- the numbers of a run that went through
numbers_of : (r : Result Lowered Refused) (w : Bool) (c d : Counts) (k n m : ℕ) → as_answer r ≡ acceptance (not (eqb c.builds 0)) c k n → c ≡ d → w ≡ not (eqb d.builds 0) → n ≡ m → as_answer r ≡ acceptance w d k m
numbers_of r w c d k n m z e f g = z ∙ rw (e, f, g)

module _ {run : Run} {trial : Trial} (m : Measured run trial) where
  abbrev σ : Settings
  σ = run.settings

  abbrev s : List ℕ
  s = run.code.bytes.now

  abbrev facts : List ℕ
  facts = run.code.facts.now

  abbrev b : Bounds
  b = run.code.bounds

  abbrev p : Progress
  p = trial.progress

  abbrev a : AcceptedCode run.code
  a = m.chosen.accepted

  abbrev x : Routine
  x = a.routine

  abbrev w : Rewritten
  w = rewritten_blocks σ x

  abbrev head : List ℕ
  head = head_of x w

  pub many_few : b.next + p.fresh < 65536
  many_few = omega (arith, few_values a σ m.ran.calm, m.ran.many)

  pub begun : Begun w trial.body.now p.to
  begun = record { calm = m.ran.calm; buffer = m.buffer; written = m.ran.written; place = m.ran.place ∙ zero-add (length (body_of w)) }

  -- the table has the types of the fresh numbers, and nothing behind them is lent
  pub types_taken : trial.fresh.now ≡ fresh_numbers w.fresh
  types_taken =
      let n = fresh_numbers w.fresh in
      let l : length n ≤ length m.zeros = omega (arith, numbers_length w.fresh, m.room) in
      m.fresh ∙ ap (λ k. take k m.table) (m.ran.many ∙ sym (numbers_length w.fresh)) ∙ ap (take (length n)) m.ran.taken ∙ take_sets n m.zeros l

  pub recorded_long : b.next ≤ length (recorded_in facts)
  recorded_long = omega (arith, next_few a, a.facts_of.long, length-drop 65 facts)

  pub tabled : Tabled (recorded_in facts) trial.fresh.now b.next p.fresh x.recorded w.fresh
  tabled =
      record {
        old = recorded_many a;
        new = sym m.ran.many;
        known = a.facts_of.recorded;
        long = recorded_long;
        taken = λ k l. ap (λ t. get_or t k 0) types_taken;
      }

  -- what the writer of the head asks for
  abbrev pub opens : Opens run.code trial.fresh.now p.fresh p.to
  opens =
      record {
        routine = x;
        types = w.fresh;
        reads = canon a;
        behind = types_end a;
        next = sym (next_is a);
        tabled = tabled;
        few = many_few;
        short = a.facts_of.short;
        low = m.low;
      }

  -- the head is written
  abbrev pub headed : (out out₁ : List ℕ) (to : ℕ) → (to ≤ longest_head) × ((length head + p.to ≤ length out) × Writes head out out₁ 0 to) → Headed run trial out₁ to
  headed out out₁ to f = record { measured = m; before = out; near = f.0; room = f.1.0; written = f.1.1 }

  whole_length : length (encode (rewrite σ x)) ≡ length head + length (body_of w)
  whole_length = ap length (rewritten_bytes σ x) ∙ length-append head (body_of w)

  module _ (out : List ℕ) where
    -- where it is too long
    pub answers_long : (out' : List ℕ) → (length out < length head + p.to) × (out' ≡ out) → Answers (given σ (length out) s) (Err Refused.NoRoom) out out'
    answers_long out' l = answers _ (refused 11 0) _ out out' (given_refused σ (length out) s 11 0 (too_long σ (length out) s m.chosen.small x a.used a.reads m.ran.calm (omega (arith, l.0, whole_length, begun.place)))) refl l.1

    module _ (l : length head + p.to ≤ length out) (out₁ out₂ : List ℕ) (to : ℕ) (h : Writes head out out₁ 0 to) (g : out₂ ≡ sets out₁ to (body_of w)) where
      -- where it has room, the output is the rewritten routine's bytes
      written_all : out₂ ≡ sets out 0 (head ++ body_of w)
      written_all =
          let z : sets out 0 (head ++ body_of w) ≡ sets (sets out 0 head) (0 + length head) (body_of w) = sets_append out 0 head (body_of w) in
          g ∙ ap (λ k. sets out₁ k (body_of w)) h.0 ∙ ap (λ t. sets t (0 + length head) (body_of w)) h.1 ∙ sym z

      pub answers_written : (k : Result ⊤ ShelfReason) (r : Result Lowered Refused) → number_of_reason k ≡ shelf_reason with_debug x w → as_answer r ≡ acceptance (not (eqb p.counts.builds 0)) p.counts (number_of_reason k) (to + p.to) → Answers (given σ (length out) s) r out out₂
      answers_written k r f z =
          let i : to + p.to ≡ length (encode (rewrite σ x)) = omega (arith, whole_length, begun.place, h.0) in
          let j : out₂ ≡ sets out 0 (encode (rewrite σ x)) = written_all ∙ ap (sets out 0) (sym (rewritten_bytes σ x)) in
          let o : outcome σ (length out) s ≡ O.lowered w.changed w.counts (encode (rewrite σ x)) = accepted σ (length out) s m.chosen.small x a.used a.reads m.ran.calm (omega (arith, whole_length, begun.place)) in
          answers _ (lowered w.changed w.counts (number_of_reason k) (encode (rewrite σ x))) r out out₂ (given_lowered σ (length out) s x a.used (number_of_reason k) _ _ _ a.reads f o) (numbers_of r w.changed p.counts w.counts (number_of_reason k) (to + p.to) (length (encode (rewrite σ x))) z m.ran.counted (result_count σ x) i) j

      -- and the shelf test sees it so
      pub shelved_written : (next : ℕ) → next ≡ b.next + p.fresh → Shelved run.code out₂ to next trial.dropped.now x w
      shelved_written next en =
          let i : length (head ++ body_of w) ≤ length out = omega (arith, length-append head (body_of w), begun.place) in
          shelved run m.chosen to next out out₂ (replicate 256 false) trial.dropped.now (h.0 ∙ zero-add (length head)) (en ∙ ap (λ k. b.next + k) m.ran.many) (as_many σ x) i written_all refl m.ran.marks m.ran.calm

-- behind the head there is room for the blocks
pub room_behind : {run : Run} {trial : Trial} {out : List ℕ} {to : ℕ} → Headed run trial out to → to + trial.progress.to ≤ length out
room_behind {run} h =
    let x = h.measured.chosen.accepted.routine in
    omega (arith, h.room, h.written.0, ap length h.written.1, length-sets h.before 0 (head_of x (rewritten_blocks run.settings x)))
