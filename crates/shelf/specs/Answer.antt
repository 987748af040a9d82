-- What a call gives, the shelf reason too: demand 1 whole.
use Rattle.std.specs.Prelude.{ℕ, List, Bool}
use Rattle.bytes_wire.specs.Parse.{Parse, ok, bad}
use Rattle.mir.specs.Routine.{Routine}
use Rattle.bytes_sections.specs.Decode.{mosts, whole_of}
use Rattle.fold.specs.declared.Settings.{Settings}
use Rattle.rewrite.specs.declared.Counts.{Counts}
use Rattle.rewrite.specs.Run.{rewritten_blocks}
use Rattle.rewrite.specs.Outcome.{Outcome, outcome}
use Rattle.shelf.specs.Reads.{with_debug}
use Rattle.shelf.specs.Reason.{shelf_reason}

-- a refusal's number and offset, or the result, the counts, the shelf reason and the bytes of the rewritten routine
pub data Answer : Type 0 where
  refused : ℕ → ℕ → Answer
  lowered : Bool → Counts → ℕ → List ℕ → Answer

-- the reason of the routine that the input is; Debug's values count (document 02)
unfoldable pub reason_of : Settings → Parse Routine → ℕ
reason_of σ (ok r n) = shelf_reason with_debug r (rewritten_blocks σ r)
reason_of σ (bad c o) = 0

unfoldable pub with_reason : ℕ → Outcome → Answer
with_reason k (Outcome.refused n o) = refused n o
with_reason k (Outcome.lowered w c bytes) = lowered w c k bytes

-- what a call answers: the outcome, with the shelf reason where it is accepted
unfoldable pub answer : Settings → ℕ → List ℕ → Answer
answer σ room s = with_reason (reason_of σ (whole_of mosts s)) (outcome σ room s)
