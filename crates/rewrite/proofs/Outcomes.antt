-- Laws of the outcome of a call: which refusal comes first, and what an accepted input gives.
use Prim.Native.Nat.{ℕ, ◌≤◌, ◌<◌}
use mathlib.Core.Path.{◌≡◌, ◌∙◌}
use mathlib.Core.List.{List}
use mathlib.Core.Bool.{Bool, true, false, cond}
use lib.ListN.{length}
use borrow.Author.Tests.{lt-ltb, le-ltb}
use Rattle.bytes_wire.specs.Parse.{ok, bad, number_of_cause}
use Rattle.bytes_wire.specs.declared.Cause.{Cause}
use Rattle.mir.specs.Routine.{Routine}
use Rattle.bytes_sections.specs.Decode.{mosts, whole_of}
use Rattle.bytes_sections.specs.Encode.{encode}
use Rattle.fold.specs.declared.Settings.{Settings}
use Rattle.rewrite.specs.Piece.{no_counts}
use Rattle.rewrite.specs.Run.{Rewritten, choice, rewritten_blocks, rewrite_with, rewrite}
use Rattle.mir.specs.Lookup.{types_in}
use Rattle.rewrite.specs.Outcome.{refused, lowered, fitted_in, unless, rewritten, of_input, outcome}
use Rattle.rewrite.specs.declared.Fault.{Fault}
use Rattle.rewrite.specs.Fault.{number_of_fault}
use mathlib.Core.Option.{none, some}
use Rattle.rewrite.proofs.Unchanged.{untouched_blocks, unchanged, unchanged_blocks}

cond_true : {A : Type 0} (b : Bool) (x y : A) → b ≡ true → cond b x y ≡ x
cond_true b x y e = rw e

cond_false : {A : Type 0} (b : Bool) (x y : A) → b ≡ false → cond b x y ≡ y
cond_false b x y e = rw e

-- a rewriting that changed nothing counted, dropped and took nothing
pub unchanged_result : (σ : Settings) (r : Routine) → (rewritten_blocks σ r).changed ≡ false → rewritten_blocks σ r ≡ untouched_blocks r.blocks (rewritten_blocks σ r).fault
unfolding rewritten_blocks
unchanged_result σ r e = unchanged_blocks σ (types_in r) (choice σ r) r.next r.blocks e

-- "12 is tested first": before a byte is read
pub too_large : (σ : Settings) (room : ℕ) (s : List ℕ) → 16 < σ.most → outcome σ room s ≡ refused 12 0
unfolding outcome
too_large σ room s h = rw (lt-ltb 16 σ.most h)

of_input_lem : (σ : Settings) (room : ℕ) (s : List ℕ) → σ.most ≤ 16 → outcome σ room s ≡ of_input σ room (whole_of mosts s)
unfolding outcome
of_input_lem σ room s h = rw (le-ltb 16 σ.most h)

-- what is made of a rewriting
with_fault : (room : ℕ) (w : Rewritten) (r : Routine) (f : Fault) → w.fault ≡ some f → rewritten room w r ≡ refused (number_of_fault f) 0
unfolding rewritten unless
with_fault room w r f e = rw e

without_fault : (room : ℕ) (w : Rewritten) (r : Routine) → w.fault ≡ none → rewritten room w r ≡ fitted_in room w (encode (rewrite_with w r))
unfolding rewritten unless
without_fault room w r e = rw e

no_room : (room : ℕ) (w : Rewritten) (bytes : List ℕ) → room < length bytes → fitted_in room w bytes ≡ refused 11 0
unfolding fitted_in
no_room room w bytes h = cond_true _ _ _ (lt-ltb room (length bytes) h)

with_room : (room : ℕ) (w : Rewritten) (bytes : List ℕ) → length bytes ≤ room → fitted_in room w bytes ≡ lowered w.changed w.counts bytes
unfolding fitted_in
with_room room w bytes h = cond_false _ _ _ (le-ltb room (length bytes) h)

module _ (σ : Settings) (room : ℕ) (s : List ℕ) (small : σ.most ≤ 16) where
  -- an input that the reader refuses is refused with its number and offset, whatever the room
  pub refused_input : (c : Cause) (o : ℕ) → whole_of mosts s ≡ bad c o → outcome σ room s ≡ refused (number_of_cause c) o
  unfolding of_input
  refused_input c o e = rw (of_input_lem σ room s small, e)

  module _ (r : Routine) (n : ℕ) (reads : whole_of mosts s ≡ ok r n) where
    accepts : outcome σ room s ≡ rewritten room (rewritten_blocks σ r) r
    unfolding of_input
    accepts = rw (of_input_lem σ room s small, reads)

    -- 10, 14 and 15 come before 11: whatever the room
    pub faulty : (f : Fault) → (rewritten_blocks σ r).fault ≡ some f → outcome σ room s ≡ refused (number_of_fault f) 0
    faulty f e = accepts ∙ with_fault room _ r f e

    -- 11 only of the length that the output has
    pub too_long : (rewritten_blocks σ r).fault ≡ none → room < length (encode (rewrite σ r)) → outcome σ room s ≡ refused 11 0
    unfolding rewrite
    too_long e h = accepts ∙ without_fault room _ r e ∙ no_room room _ _ h

    -- else the result, the counts and the bytes of the rewritten routine
    pub accepted : (rewritten_blocks σ r).fault ≡ none → length (encode (rewrite σ r)) ≤ room → outcome σ room s ≡ lowered (rewritten_blocks σ r).changed (rewritten_blocks σ r).counts (encode (rewrite σ r))
    unfolding rewrite
    accepted e h = accepts ∙ without_fault room _ r e ∙ with_room room _ _ h

    -- a result of false comes with no counts and the bytes of the routine itself
    pub accepted_unchanged : (rewritten_blocks σ r).fault ≡ none → (rewritten_blocks σ r).changed ≡ false → length (encode r) ≤ room → outcome σ room s ≡ lowered false no_counts (encode r)
    accepted_unchanged g e h =
        let w : rewritten_blocks σ r ≡ untouched_blocks r.blocks (rewritten_blocks σ r).fault = unchanged_result σ r e in
        let q : rewrite σ r ≡ r = unchanged σ r e in
        accepted g (rw q h) ∙ rw (w, q)
