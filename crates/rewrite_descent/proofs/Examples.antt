-- Edition 2's rebuilds by computation: the type table U32, a pair of it, a pair of it and such a pair, and a pair of such pairs; of
-- the values the first is no aggregate, and the others have these types in turn.
use Prim.Native.Nat.{ℕ}
use mathlib.Core.Path.{◌≡◌, refl}
use mathlib.Core.List.{List, [], ◌∷◌}
use mathlib.Core.Option.{Option, none, some}
use lib.ListN.{get_or}
use Rattle.bytes_wire.specs.Value.{unit}
use Rattle.mir.specs.declared.TypeId.{TypeId}
use Rattle.mir.specs.declared.Value.{Value}
use Rattle.mir.specs.MirType.{MirType}
use Rattle.mir.specs.Syntax.{Instruction, InstructionKind, plain}
use Rattle.mir.specs.Lookup.{Types}
use Rattle.rewrite.specs.declared.Fault.{Fault}
use Rattle.rewrite.specs.State.{AggStates}
use Rattle.rewrite.specs.Rebuild.{Rebuilt}
use Rattle.rewrite.specs.Deep.{wanted_own, rebuild_deep}
use Rattle.rewrite.proofs.Open.{all_open}

typ : ℕ → TypeId
typ n = record { 0 = n }

val : ℕ → Value
val n = Value.Operand (record { 0 = n })

pair : ℕ → Value → Value → Instruction
pair n x y = plain (InstructionKind.MakeTuple (record { 0 = n }) (x ∷ y ∷ []))

types : Types
types =
    record {
      rows =
          MirType.U32
          ∷ MirType.Tuple (typ 0 ∷ typ 0 ∷ [])
          ∷ MirType.Tuple (typ 0 ∷ typ 1 ∷ [])
          ∷ MirType.Tuple (typ 1 ∷ typ 1 ∷ [])
          ∷ [];
      recorded = some (typ 0) ∷ some (typ 1) ∷ some (typ 2) ∷ some (typ 3) ∷ [];
    }

-- value 1 has value 0 and Unit as its parts, value 2 has values 0 and 1, value 3 has value 1 twice
tracked : AggStates
tracked v = get_or (none ∷ some (val 0 ∷ unit ∷ []) ∷ some (val 0 ∷ val 1 ∷ []) ∷ some (val 1 ∷ val 1 ∷ []) ∷ []) v none

-- value 1 has itself and value 0 as its parts
looped : AggStates
looped v = get_or (none ∷ some (val 0 ∷ val 1 ∷ []) ∷ []) v none

-- what is told of rebuilds in a block that has so many instructions before
record Shown : Type 0 where
  before : List Instruction
  values : List Value
  fresh : List TypeId
  fault : Option Fault

shown : ℕ → Rebuilt → Shown
shown l r = record { before = r.before; values = r.values; fresh = r.fresh; fault = r.fault l }

-- the part before the whole; a value that is no aggregate stays
nested : shown 0 (rebuild_deep types tracked 4 (wanted_own types (val 2 ∷ val 0 ∷ []))) ≡ record {
  before = pair 4 (val 0) unit ∷ pair 5 (val 0) (val 4) ∷ [];
  values = val 5 ∷ val 0 ∷ [];
  fresh = typ 1 ∷ typ 2 ∷ [];
  fault = none;
}
unfolding all_open shown tracked types val typ pair
nested = refl

-- a part that stands twice is rebuilt twice, and is no loop
twice : shown 0 (rebuild_deep types tracked 4 (wanted_own types (val 3 ∷ []))) ≡ record {
  before = pair 4 (val 0) unit ∷ pair 5 (val 0) unit ∷ pair 6 (val 4) (val 5) ∷ [];
  values = val 6 ∷ [];
  fresh = typ 1 ∷ typ 1 ∷ typ 3 ∷ [];
  fault = none;
}
unfolding all_open shown tracked types val typ pair
twice = refl

-- a value among its own parts is refusal 14; the 65,536th instruction of a block is 15
loops : (shown 0 (rebuild_deep types looped 4 (wanted_own types (val 1 ∷ [])))).fault ≡ some Fault.Looped
unfolding all_open shown looped types val typ pair
loops = refl

overfull : (shown 65534 (rebuild_deep types tracked 4 (wanted_own types (val 2 ∷ [])))).fault ≡ some Fault.Overfull
unfolding all_open shown tracked types val typ pair
overfull = refl
