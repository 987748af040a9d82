-- What the definitions say of an instruction and of a Return that stand behind rebuilds: the type table U32 and a pair of it; value 0 is
-- no aggregate, value 1 is a pair that has value 0 and Unit as its parts.
use Prim.Native.Nat.{ℕ}
use mathlib.Core.Path.{◌≡◌, refl}
use mathlib.Core.List.{[], ◌∷◌}
use mathlib.Core.Option.{none, some}
use lib.ListN.{get_or}
use Rattle.bytes_wire.specs.Value.{unit}
use Rattle.mir.specs.declared.TypeId.{TypeId}
use Rattle.mir.specs.declared.Value.{Value}
use Rattle.mir.specs.MirType.{MirType}
use Rattle.mir.specs.Syntax.{Instruction, InstructionKind, plain}
use Rattle.mir.specs.Lookup.{Types}
use Rattle.rewrite.specs.State.{AggStates}
use Rattle.rewrite.specs.Readings.{readings}
use Rattle.rewrite.specs.Stays.{kept_behind}
use Rattle.rewrite.specs.Run.{returned}
use Rattle.rewrite.proofs.Open.{all_open}
use Rattle.rewrite_patch.specs.Chunks.{numbered, with_numbers}
use Rattle.rewrite_keep.specs.Keeping.{rebuilt_own}

typ : ℕ → TypeId
typ n = record { 0 = n }

val : ℕ → Value
val n = Value.Operand (record { 0 = n })

pair : ℕ → Value → Value → Instruction
pair n x y = plain (InstructionKind.MakeTuple (record { 0 = n }) (x ∷ y ∷ []))

types : Types
types = record { rows = MirType.U32 ∷ MirType.Tuple (typ 0 ∷ typ 0 ∷ []) ∷ []; recorded = some (typ 0) ∷ some (typ 1) ∷ [] }

tracked : AggStates
tracked v = get_or (none ∷ some (val 0 ∷ unit ∷ []) ∷ []) v none

-- Debug 7: %1, %0, %1
debug : Instruction
debug = plain (InstructionKind.Debug 7 (val 1 ∷ val 0 ∷ val 1 ∷ []))

-- each reading has a rebuild of its own, and a value that is no aggregate stays
debug_behind : (kept_behind tracked debug (rebuilt_own types tracked 2 (readings debug.kind))).out ≡ pair 2 (val 0) unit ∷ pair 3 (val 0) unit ∷ plain (InstructionKind.Debug 7 (val 2 ∷ val 0 ∷ val 3 ∷ [])) ∷ []
unfolding all_open kept_behind debug types tracked typ val pair
debug_behind = refl

-- the numbers that are put in
debug_numbers : with_numbers debug (2 ∷ 0 ∷ 3 ∷ []) ≡ plain (InstructionKind.Debug 7 (val 2 ∷ val 0 ∷ val 3 ∷ []))
unfolding all_open debug val numbered
debug_numbers = refl

-- each rebuild is counted
debug_counts : (kept_behind tracked debug (rebuilt_own types tracked 2 (readings debug.kind))).counts.materializations ≡ 2
unfolding all_open kept_behind debug types tracked typ val pair
debug_counts = refl

-- Return %1
return_behind : (returned (rebuilt_own types tracked 2 (val 1 ∷ []))).out ≡ pair 2 (val 0) unit ∷ []
unfolding all_open returned types tracked typ val pair
return_behind = refl
