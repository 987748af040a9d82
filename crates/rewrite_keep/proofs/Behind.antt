-- The promise of put_behind, from what its parts promise.
use Prim.Native.Nat.{ℕ, ◌+◌, ◌-◌, ◌<◌}
use mathlib.Core.Path.{◌≡◌, refl, ap, ◌∙◌, sym}
use mathlib.Core.List.{List, [], ◌∷◌, append-nil}
use mathlib.Core.Option.{Option, none, some}
use native.Mathlib.Nat.{zero-add}
use native.Mathlib.Omega.{arith}
use lib.ListN.{length, length-append}
use Rattle.std.specs.Prelude.{Result, Ok, Err}
use Rattle.mir.specs.Syntax.{Instruction}
use Rattle.mir.specs.Lookup.{Types}
use Rattle.bytes_field.specs.Encode.{instruction_bytes}
use Rattle.fold.specs.Family.{Marks}
use Rattle.rewrite.specs.declared.Fault.{Fault}
use Rattle.rewrite.specs.State.{AggStates}
use Rattle.rewrite.specs.Fault.{first_met, full_fault}
use Rattle.rewrite.specs.Rebuild.{Rebuilt}
use Rattle.rewrite.specs.Readings.{readings, with_readings}
use Rattle.rewrite.specs.Piece.{Piece}
use Rattle.rewrite.specs.Stays.{kept_behind}
use Rattle.rewrite_parts.specs.Rows.{rows_in, fresh_in}
use Rattle.rewrite_parts.specs.Here.{Here}
use Rattle.rewrite_progress.specs.declared.Progress.{Progress}
use Rattle.rewrite_progress.specs.Effect.{output_of, then_effect, rebuilt_effect, piece_effect, Puts}
use Rattle.rewrite_progress.proofs.Laws.{each_append}
use Rattle.rewrite_wanted.specs.Asked.{Setting}
use Rattle.rewrite_patch.specs.Kept.{Kept, NumbersPut}
use Rattle.rewrite_patch.specs.Chunks.{with_numbers}
use Rattle.rewrite_before.specs.declared.Site.{Site}
use Rattle.rewrite_before.specs.Materialized.{onward, InstructionWritten}
use Rattle.rewrite_before.proofs.Effects.{line, refused_put, full_put, went_put, spent, lined}
use Rattle.rewrite_keep.specs.declared.Reader.{Reader}
use Rattle.rewrite_keep.specs.Keeping.{Reading, rebuilt_own, Taken, TakenIn, ReadingsPut, BehindPut}

-- the builds' fault, then the instruction's own line
behind_fault : (S : AggStates) (i : Instruction) (R : Rebuilt) (l : ℕ) → (kept_behind S i R).fault l ≡ first_met (R.fault l) (full_fault (l + length R.before))
unfolding kept_behind
behind_fault S i R l = refl

-- the builds, then the instruction with the numbers put in
behind_effect : (S : AggStates) (i : Instruction) (R : Rebuilt) (w : List ℕ) → w ≡ instruction_bytes (record { meta = i.meta; kind = with_readings i.kind R.values }) → then_effect (rebuilt_effect R) (line w 1 (length R.fresh)) ≡ piece_effect (kept_behind S i R)
unfolding kept_behind then_effect rebuilt_effect piece_effect
behind_effect S i R w e =
    let I : Instruction = record { meta = i.meta; kind = with_readings i.kind R.values } in
    rw (each_append instruction_bytes R.before (I ∷ []), length-append R.before (I ∷ []), append-nil R.fresh, append-nil (instruction_bytes I), e, zero-add (length R.fresh)) refl

module _ (site : Site) (out work : List ℕ) (p : Progress) (out₁ work₁ nums : List ℕ) (r : Result Progress Fault) (u : ReadingsPut site Reader.Instruction out work p out₁ work₁ nums r) where
  -- what is known in each case
  module _ (τ : Types) (S : AggStates) (used : ℕ) (i : Instruction) (dropped : Marks) (q : Piece) (a : Here site.code.bounds site.code.bytes.now site.code.facts.now site.slot site.tracked.now (rows_in work) used τ S i) (y : q ≡ kept_behind S i (rebuilt_own τ S (site.code.bounds.next + p.fresh) (readings i.kind))) (h : site.code.bounds.next + p.fresh < 65536) where
    abbrev R : Rebuilt
    R = rebuilt_own τ S (site.code.bounds.next + p.fresh) (readings i.kind)

    kept : Kept site.code site.slot i
    kept = record { bytes = a.ground.bytes; line = a.line; listed = a.ground.listed; projected = a.ground.projected }

    setting : Setting site.code site.tracked.now (rows_in work) τ S
    setting = record { used = used; ground = a.ground; rep = a.rep }

    reading : Reading site.code site.slot (readings i.kind)
    reading = record { instruction = i; kept = kept; values = refl }

    puts : Puts (output_of out (fresh_in work) dropped p) (rebuilt_effect R) R.fault out₁ (fresh_in work₁) dropped r
    puts = (u τ S (readings i.kind) setting reading h).0 dropped

    abbrev own : Option Fault
    own = full_fault (p.lines + length R.before)

    fault_same : q.fault p.lines ≡ first_met (R.fault p.lines) own
    fault_same = ap (λ z. z.fault p.lines) y ∙ behind_fault S i R p.lines

    abbrev Done : List ℕ → Result Progress Fault → Type 0
    Done out₂ s = Puts (output_of out (fresh_in work) dropped p) (piece_effect q) q.fault out₂ (fresh_in work₁) dropped s

    refused_case : (f : Fault) → r ≡ Err f → Done out₁ (Err f)
    refused_case f z = refused_put out (fresh_in work) dropped p R r out₁ (fresh_in work₁) puts (piece_effect q) q.fault own fault_same f z

    module _ (q' : Progress) (z : r ≡ Ok q') where
      own_line : q'.lines ≡ p.lines + length R.before
      own_line = lined out (fresh_in work) dropped p R r out₁ (fresh_in work₁) puts q' z

      full_case : (f : Fault) → some f ≡ full_fault q'.lines → Done out₁ (Err f)
      full_case f m = full_put out (fresh_in work) dropped p R r out₁ (fresh_in work₁) puts (piece_effect q) q.fault own fault_same q' z f (sym (m ∙ ap full_fault own_line))

      taken : Taken (readings i.kind) nums R
      taken =
          let t : TakenIn (readings i.kind) nums R r = (u τ S (readings i.kind) setting reading h).1 in
          rw z at t

      made_case : (out₂ out₃ : List ℕ) (to : ℕ) (s : Progress) → none ≡ full_fault q'.lines → InstructionWritten site.code site.slot out₁ out₂ q'.to to → NumbersPut site.code site.slot q'.to nums out₂ out₃ → s ≡ onward q' to 1 (q'.fresh - p.fresh) → Done out₃ (Ok s)
      made_case out₂ out₃ to s m v n o =
          let t = taken in
          let made : q'.fresh - p.fresh ≡ length R.fresh = omega (arith, spent out (fresh_in work) dropped p R r out₁ (fresh_in work₁) puts q' z) in
          let w = instruction_bytes (with_numbers i nums) in
          let e : w ≡ instruction_bytes (record { meta = i.meta; kind = with_readings i.kind R.values }) = ap (λ vs. instruction_bytes (record { meta = i.meta; kind = with_readings i.kind vs })) t.made in
          went_put out (fresh_in work) dropped p R r out₁ (fresh_in work₁) puts (piece_effect q) q.fault own fault_same q' z w out₃ to 1 (length R.fresh) s (sym (m ∙ ap full_fault own_line))
          (n i out₁ to kept t.replaces (v τ i a.ground a.line)) (o ∙ ap (onward q' to 1) made) (behind_effect S i R w e ∙ ap piece_effect (sym y))

  pub behind_refused : (f : Fault) → r ≡ Err f → BehindPut site.code site.slot site.tracked.now out work p out₁ work₁ (Err f)
  behind_refused f z = λ τ S used i dropped q a y h. refused_case τ S used i dropped q a y h f z

  pub behind_full : (q' : Progress) (f : Fault) → r ≡ Ok q' → some f ≡ full_fault q'.lines → BehindPut site.code site.slot site.tracked.now out work p out₁ work₁ (Err f)
  behind_full q' f z m = λ τ S used i dropped q a y h. full_case τ S used i dropped q a y h q' z f m

  pub behind_made : (q' : Progress) (out₂ out₃ : List ℕ) (to : ℕ) (s : Progress) → r ≡ Ok q' → none ≡ full_fault q'.lines → InstructionWritten site.code site.slot out₁ out₂ q'.to to → NumbersPut site.code site.slot q'.to nums out₂ out₃ → s ≡ onward q' to 1 (q'.fresh - p.fresh) → BehindPut site.code site.slot site.tracked.now out work p out₃ work₁ (Ok s)
  behind_made q' out₂ out₃ to s z m v n o = λ τ S used i dropped q a y h. made_case τ S used i dropped q a y h q' z out₂ out₃ to s m v n o
