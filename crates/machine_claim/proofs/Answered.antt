-- What a lowered answer says of the routine behind it.
use Prim.Native.Nat.{ℕ, ◌≤◌}
use mathlib.Core.Path.{◌≡◌, refl}
use mathlib.Core.Option.{Option, none, some}
use mathlib.Core.List.{List}
use mathlib.Core.Bool.{Bool, true, false, cond}
use native.Mathlib.Omega.{arith}
use borrow.Author.Tests.{ltb-false}
use lib.Dec.{ltb}
use lib.ListN.{length}
use Rattle.bytes_wire.specs.Parse.{Parse, ok, bad}
use Rattle.mir.specs.Routine.{Routine}
use Rattle.bytes_sections.specs.Decode.{mosts, whole_of}
use Rattle.bytes_sections.specs.Encode.{encode}
use Rattle.fold.specs.declared.Settings.{Settings}
use Rattle.rewrite.specs.declared.Counts.{Counts}
use Rattle.rewrite.specs.declared.Fault.{Fault}
use Rattle.rewrite.specs.Run.{Rewritten, rewritten_blocks, rewrite_with, rewrite}
use Rattle.rewrite.specs.Outcome.{Outcome, fitted_in, unless, rewritten, of_input, outcome}
use Rattle.shelf.specs.Answer.{Answer, reason_of, with_reason, answer}

-- the routine behind it, its rewriting's bytes, which have room, and its reason; the rewriting has no fault
pub data From (σ : Settings) (room : ℕ) (p : Parse Routine) (k : ℕ) (bytes : List ℕ) : Type 0 where
  from : (r : Routine) (n : ℕ) → p ≡ ok r n → bytes ≡ encode (rewrite σ r) → length bytes ≤ room → k ≡ reason_of σ (ok r n) → (rewritten_blocks σ r).fault ≡ none → From σ room p k bytes

no_refusal : {n o : ℕ} {w : Bool} {c : Counts} {k : ℕ} {bytes : List ℕ} → Answer.refused n o ≡ Answer.lowered w c k bytes → ⊥
no_refusal {n} {o} {w} {c} {k} {bytes} e = let z : ◌≡◌ {A = ℕ} 0 1 = cc in omega arith

of_fitted : (room : ℕ) (x v w : Bool) (c e : Counts) (k j : ℕ) (all bytes : List ℕ) → ltb room (length all) ≡ x → with_reason j (cond x (Outcome.refused 11 0) (Outcome.lowered v e all)) ≡ Answer.lowered w c k bytes → (bytes ≡ all) × (length bytes ≤ room) × (k ≡ j)
unfolding with_reason
of_fitted room true v w c e k j all bytes l h = absurd (no_refusal h)
of_fitted room false v w c e k j all bytes l h = let same : bytes ≡ all = cc in (same, rw same (ltb-false room (length all) l), cc)

of_fault : (room : ℕ) (v : Rewritten) (r : Routine) (o : Option Fault) (w : Bool) (c : Counts) (k j : ℕ) (bytes : List ℕ) → with_reason j (unless o (fitted_in room v (encode (rewrite_with v r)))) ≡ Answer.lowered w c k bytes → (bytes ≡ encode (rewrite_with v r)) × (length bytes ≤ room) × (k ≡ j) × (o ≡ none)
unfolding with_reason unless fitted_in
of_fault room v r (some f) w c k j bytes h = absurd (no_refusal h)
of_fault room v r none w c k j bytes h =
    let z = of_fitted room (ltb room (length (encode (rewrite_with v r)))) v.changed w c v.counts k j (encode (rewrite_with v r)) bytes refl h in
    (z.0, z.1, z.2, refl)

of_input_lem : (σ : Settings) (room : ℕ) (p : Parse Routine) (w : Bool) (c : Counts) (k : ℕ) (bytes : List ℕ) → with_reason (reason_of σ p) (of_input σ room p) ≡ Answer.lowered w c k bytes → From σ room p k bytes
unfolding reason_of of_input rewritten rewrite with_reason
of_input_lem σ room (bad q o) w c k bytes h = absurd (no_refusal h)
of_input_lem σ room (ok r n) w c k bytes h =
    let z = of_fault room (rewritten_blocks σ r) r (rewritten_blocks σ r).fault w c k (reason_of σ (ok r n)) bytes h in
    From.from r n refl z.0 z.1 z.2 z.3

of_settings : (σ : Settings) (room : ℕ) (p : Parse Routine) (x w : Bool) (c : Counts) (k : ℕ) (bytes : List ℕ) → with_reason (reason_of σ p) (cond x (Outcome.refused 12 0) (of_input σ room p)) ≡ Answer.lowered w c k bytes → From σ room p k bytes
unfolding with_reason
of_settings σ room p true w c k bytes h = absurd (no_refusal h)
of_settings σ room p false w c k bytes h = of_input_lem σ room p w c k bytes h

pub of_answer : (σ : Settings) (room : ℕ) (s : List ℕ) (w : Bool) (c : Counts) (k : ℕ) (bytes : List ℕ) → answer σ room s ≡ Answer.lowered w c k bytes → From σ room (whole_of mosts s) k bytes
unfolding answer outcome
of_answer σ room s w c k bytes h = of_settings σ room (whole_of mosts s) (ltb 16 σ.most) w c k bytes h

-- the output has room for it
pub with_room : (σ : Settings) (room : ℕ) (s : List ℕ) (w : Bool) (c : Counts) (k : ℕ) (bytes : List ℕ) → answer σ room s ≡ Answer.lowered w c k bytes → length bytes ≤ room
with_room σ room s w c k bytes h = elim (of_answer σ room s w c k bytes h) [ from r n e f l g u ↦ l ]
