-- What the code has of an input at each stage: a routine and its table of facts, and the choice.
use Rattle.std.specs.Prelude.{ℕ, ◌≤◌, ◌≡◌, List, Bool, false}
use Rattle.bytes_wire.specs.Parse.{ok}
use Rattle.bytes_wire.specs.WellFormed.{Bytes}
use Rattle.bytes_field.specs.declared.Bounds.{Bounds}
use Rattle.bytes_index.specs.declared.code.Code.{Code}
use Rattle.mir.specs.Routine.{Routine}
use Rattle.bytes_sections.specs.Decode.{mosts, whole_of}
use Rattle.bytes_sections.specs.Facts.{FactsOf}
use Rattle.fold.specs.declared.Settings.{Settings}
use Rattle.rewrite.specs.Run.{choice, rewritten_blocks}
use Rattle.rewrite_progress.specs.Chosen.{Follows}
use Rattle.rewrite_progress.specs.declared.Run.{Run}

-- the input is a routine, and its parts are found by the table
pub record Accepted (s facts : List ℕ) (b : Bounds) : Type 0 where
  pub routine : Routine
  pub used : ℕ
  pub reads : whole_of mosts s ≡ ok routine used
  pub bytes : Bytes s
  pub facts_of : FactsOf s facts b routine

-- which builds are folded and which blocks are skipped, too
pub record Chosen (σ : Settings) (s facts : List ℕ) (b : Bounds) (flags : List Bool) : Type 0 where
  pub accepted : Accepted s facts b
  pub small : σ.most ≤ 16
  pub follows : Follows (choice σ accepted.routine) facts flags accepted.routine.blocks

-- or that it comes out as it is, whatever is chosen
pub record Unchanged (σ : Settings) (s facts : List ℕ) (b : Bounds) : Type 0 where
  pub accepted : Accepted s facts b
  pub small : σ.most ≤ 16
  pub still : (rewritten_blocks σ accepted.routine).changed ≡ false

-- the same, of a routine and of a run as the code has them
abbrev pub AcceptedCode : Code → Type 0
AcceptedCode code = Accepted code.bytes.now code.facts.now code.bounds

abbrev pub ChosenRun : Run → Type 0
ChosenRun run = Chosen run.settings run.code.bytes.now run.code.facts.now run.code.bounds run.choice.now

abbrev pub UnchangedCode : Settings → Code → Type 0
UnchangedCode σ code = Unchanged σ code.bytes.now code.facts.now code.bounds
