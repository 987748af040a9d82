-- One instruction of a block that is rewritten, and what the tables hold before it.
use Rattle.std.specs.Prelude.{ℕ, List}
use Rattle.mir.specs.Syntax.{Instruction}
use Rattle.bytes_field.specs.declared.Bounds.{Bounds}
use Rattle.bytes_index.specs.Table.{recorded_in}
use Rattle.bytes_index.specs.Code.{InstructionIn}
use Rattle.fold.specs.Family.{Marks}
use Rattle.mir.specs.Lookup.{Types}
use Rattle.fold.specs.Tables.{Ground}
use Rattle.rewrite.specs.State.{AggStates}
use Rattle.rewrite_parts.specs.Rows.{Rep}

pub record Here (b : Bounds) (s facts : List ℕ) (slot : ℕ) (tracked : Marks) (rows : List ℕ) (used : ℕ)
    (τ : Types) (S : AggStates) (i : Instruction) : Type 0 where
  pub ground : Ground b s facts (recorded_in facts) τ
  pub rep : Rep b.next s tracked rows used S
  pub line : InstructionIn b s facts slot i
