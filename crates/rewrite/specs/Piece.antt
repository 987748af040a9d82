-- What one instruction gives.
use Rattle.std.specs.Prelude.{ℕ, List, [], ◌∷◌, Bool, true, false}
use Rattle.std.proofs.Math.Option.{Option, none}
use Rattle.mir.specs.declared.ValueId.{ValueId}
use Rattle.mir.specs.declared.TypeId.{TypeId}
use Rattle.mir.specs.declared.Value.{Value}
use Rattle.mir.specs.Syntax.{Instruction, Assign, plain}
use Rattle.rewrite.specs.declared.Counts.{Counts}
use Rattle.rewrite.specs.declared.Fault.{Fault}
use Rattle.rewrite.specs.State.{AggStates, insert_state}
use Rattle.rewrite.specs.Fault.{full_fault}

abbrev pub no_counts : Counts
no_counts = record { builds = 0; extracts = 0; inserts = 0; assigns = 0; materializations = 0 }

-- what one instruction gives: the instructions put out, the values dropped, the new states, the types of the fresh
-- numbers it took, what it counts, whether it changed anything, and the first fault
pub record Piece : Type 0 where
  pub out : List Instruction
  pub dropped : List ValueId
  pub states : AggStates
  pub fresh : List TypeId
  pub counts : Counts
  pub changed : Bool
  pub fault : ℕ → Option Fault  -- by how many instructions the block has before

-- `new_instrs.push(inst)`: the instruction stays as it is
unfoldable pub kept : AggStates → Instruction → Piece
kept S i = record { out = i ∷ []; dropped = []; states = S; fresh = []; counts = no_counts; changed = false; fault = full_fault }

-- the instruction is left out
unfoldable pub left : Counts → List ValueId → AggStates → Piece
left c ds S = record { out = []; dropped = ds; states = S; fresh = []; counts = c; changed = true; fault = λ l. none }

-- the instruction is left out and its dest is tracked
unfoldable pub tracked : Counts → AggStates → ValueId → List Value → Piece
tracked c S d xs = left c (d ∷ []) (insert_state S d xs)

-- an Assign stands for the instruction
unfoldable pub assigned : Counts → AggStates → ValueId → Value → TypeId → Piece
assigned c S d x t = record { out = plain (Assign d x t) ∷ []; dropped = []; states = S; fresh = []; counts = c; changed = true; fault = full_fault }

abbrev pub one_build : Counts
one_build = record { builds = 1; extracts = 0; inserts = 0; assigns = 0; materializations = 0 }

abbrev pub one_extract : Counts
one_extract = record { builds = 0; extracts = 1; inserts = 0; assigns = 0; materializations = 0 }

abbrev pub one_insert : Counts
one_insert = record { builds = 0; extracts = 0; inserts = 1; assigns = 0; materializations = 0 }

abbrev pub one_assign : Counts
one_assign = record { builds = 0; extracts = 0; inserts = 0; assigns = 1; materializations = 0 }

abbrev pub materialized : ℕ → Counts
materialized n = record { builds = 0; extracts = 0; inserts = 0; assigns = 0; materializations = n }
