-- What has been done of the output at each stage.
use Rattle.std.specs.Prelude.{ℕ, ◌+◌, ◌≤◌, ◌≡◌, List, false, length, replicate, take}
use Rattle.std.proofs.Math.Option.{none}
use Rattle.rewrite.specs.Run.{Rewritten, rewritten_blocks}
use Rattle.bytes_emit.specs.Written.{Writes}
use Rattle.rewrite_head.specs.Head.{head_bytes, widened}
use Rattle.rewrite_progress.specs.declared.Run.{Run}
use Rattle.mir.specs.Routine.{Routine}
use Rattle.pass_input.specs.Accepted.{ChosenRun}
use Rattle.pass_blocks.specs.Runs.{Ran, row_places}
use Rattle.pass_write.specs.declared.Trial.{Trial}

-- no run over the blocks of an accepted routine ends behind this place
abbrev pub longest_body : ℕ
longest_body = 4643092480

-- no head ends behind this place
abbrev pub longest_head : ℕ
longest_head = 204800

-- the working table has its rows, and behind them a place for the type of each fresh number that a run takes
pub record Roomy (run : Run) (work : List ℕ) : Type 0 where
  pub chosen : ChosenRun run
  pub rows : row_places ≤ length work
  pub room : (rewritten_blocks run.settings chosen.accepted.routine).fault ≡ none
      → row_places + length (rewritten_blocks run.settings chosen.accepted.routine).fresh ≤ length work

-- what is chosen, and what a run into a buffer gave: the types of the fresh numbers, the marks, and how far it went
pub record Measured (run : Run) (trial : Trial) : Type 0 where
  pub chosen : ChosenRun run
  pub buffer : List ℕ
  pub zeros : List ℕ
  pub table : List ℕ
  pub room : length (rewritten_blocks run.settings chosen.accepted.routine).fresh ≤ length zeros
  pub ran :
      Ran (rewritten_blocks run.settings chosen.accepted.routine) 0 buffer zeros (replicate 256 false) trial.body.now table trial.dropped.now
      trial.progress
  pub fresh : trial.fresh.now ≡ take trial.progress.fresh table
  pub low : trial.progress.to ≤ longest_body

-- the bytes before the blocks
abbrev pub head_of : Routine → Rewritten → List ℕ
head_of x w = head_bytes (widened x w.fresh)

-- and the head is written, from the first place of `before` on, with room for the blocks behind it
pub record Headed (run : Run) (trial : Trial) (out : List ℕ) (to : ℕ) : Type 0 where
  pub measured : Measured run trial
  pub before : List ℕ
  pub near : to ≤ longest_head
  pub room :
      length (head_of measured.chosen.accepted.routine (rewritten_blocks run.settings measured.chosen.accepted.routine)) + trial.progress.to
      ≤ length before
  pub written : Writes (head_of measured.chosen.accepted.routine (rewritten_blocks run.settings measured.chosen.accepted.routine)) before out 0 to
