-- What a run records, how it stops and ends, and what one instruction gives.
use Rattle.std.specs.Prelude.{ℕ, List, [], ◌∷◌, ◌++◌, cond, eqb}
use Rattle.std.proofs.Math.Option.{Option, some}
use Rattle.mir.specs.declared.ValueId.{ValueId}
use Rattle.mir.specs.declared.BlockId.{BlockId}
use Rattle.mir.specs.declared.NameId.{NameId}
use Rattle.machine.specs.Values.{Val, Vals}

-- a place's step, an Index with its value
pub data Step (A : Type 0) : Type 0 where
  index : Val A → Step A
  field : NameId → Step A
  tuple : ℕ → Step A

-- "Call, HeapAllocCells, and Load or Store on a Pointer base are outside events: their kind, callee, place steps and values
-- are recorded"; "AssertEq is recorded"; "Return records its values"; "Debug becomes a recorded event .. with its message and values"
-- (document 02)
pub data Event (A : Type 0) : Type 0 where
  called : ℕ → Vals A → Event A
  allocated : Val A → Event A
  loaded : Val A → List (Step A) → Event A
  stored : Val A → List (Step A) → Val A → Event A
  asserted : Val A → Val A → Event A
  printed : ℕ → Vals A → Event A
  returned : Vals A → Event A

-- "has stopped (no value of its type, no source, no reply left, unwritten value, missing part)"; an aggregate too large for the
-- machine, which document 01's never meets; an operation's own causes
pub data Cause : Type 0 where
  no_value no_source no_reply unwritten missing too_large : Cause
  own : ℕ → Cause

-- "has ended (Return, Unreachable, unequal sides)"
pub data End : Type 0 where
  at_return at_unreachable unequal_sides : End

-- "It then stands at its next block, or has ended .., or has stopped"
pub data Standing : Type 0 where
  stands_at : BlockId → Standing
  ended : End → Standing
  stopped : Cause → Standing

-- what is compared of a run
pub record Trace (A : Type 0) : Type 0 where
  pub recorded : List (Event A)
  pub standing : Standing

-- the values written so far
abbrev pub Env : Type 0 → Type 0
Env A = ℕ → Option (Val A)

-- one value written
abbrev pub write : {A : Type 0} → Env A → ValueId → Val A → Env A
write E d y v = cond (eqb v d.0) (some y) (E v)

-- values to write, each with its number
abbrev pub Writes : Type 0 → Type 0
Writes A = List (ValueId × Val A)

-- all of them written
unfoldable pub write_all : {A : Type 0} → Writes A → Env A → Env A
write_all [] E = E
write_all (x ∷ ws) E = write_all ws (write E x.0 x.1)

-- what an instruction gives: what it writes, the outside list that is left, and what it records
pub data Out (A : Type 0) : Type 0 where
  goes : Writes A → List (Val A) → List (Event A) → Out A
  ends : End → List (Event A) → Out A
  stops : Cause → List (Event A) → Out A

-- what a block gives: the next one with the values, the outside list that is left and the record
pub data Left (A : Type 0) : Type 0 where
  next : BlockId → Env A → List (Val A) → List (Event A) → Left A
  over : End → List (Event A) → Left A
  halt : Cause → List (Event A) → Left A

-- "The record is the list of what is recorded, in order"
unfoldable pub log : {A : Type 0} → List (Event A) → List (Event A) → List (Event A)
log [] rec = rec
log (e ∷ es) rec = log es (rec ++ (e ∷ []))
