-- Blocks, and a run of n blocks.
use Rattle.std.specs.Prelude.{ℕ, zero, suc, List, [], ◌∷◌, ◌++◌, Bool, true, false, cond, eqb}
use Rattle.std.proofs.Math.Option.{Option, none, some}
use Rattle.std.proofs.Math.ListN.{get_elem?}
use Rattle.mir.specs.declared.ValueId.{ValueId}
use Rattle.mir.specs.declared.BlockId.{BlockId}
use Rattle.mir.specs.declared.Value.{Value}
use Rattle.mir.specs.Syntax.{Source, Instruction, Terminator, Jump, If, BranchCmp, Return, Unreachable, Block}
use Rattle.mir.specs.Routine.{Routine}
use Rattle.mir.specs.Lookup.{Types, row_of, recorded_type}
use Rattle.mir.specs.Phis.{behind_phis, phis_of, PhiOf, phi_of}
use Rattle.machine.specs.Values.{Val}
use Rattle.machine.specs.Meaning.{Meaning, Verdict, says, balks, Taken, took, refuses, exhausted}
use Rattle.machine.specs.Records.{Env, write, Writes, write_all, Event, returned, Cause, no_value, no_source, no_reply, unwritten, too_large, own}
use Rattle.machine.specs.Records.{at_return, at_unreachable, stands_at, ended, stopped, Trace, Out, goes, ends, stops, Left, next, over, halt, log}
use Rattle.mir.specs.Parts.{operand_row}
use Rattle.machine.specs.Places.{no_row}
use Rattle.machine.specs.Evaluate.{eval, eval_all}
use Rattle.machine.specs.Exec.{exec}

-- an instruction's outcome, and what comes behind it
unfoldable pub onward : {A : Type 0} → Out A → Env A → List (Event A) → (Env A → List (Val A) → List (Event A) → Left A) → Left A
onward (goes ws w ev) E rec k = k (write_all ws E) w (log ev rec)
onward (ends e ev) E rec k = over e (log ev rec)
onward (stops c ev) E rec k = halt c (log ev rec)

-- what is not there stops the run, in a block
unfoldable pub needed : {A B : Type 0} → Cause → Option B → List (Event A) → (B → Left A) → Left A
needed c none rec k = halt c rec
needed c (some b) rec k = k b

-- the first target where the answer is yes
unfoldable pub branch : Bool → BlockId → BlockId → BlockId
branch true a b = a
branch false a b = b

-- a comparison's verdict, or its own cause
unfoldable pub judged : {A : Type 0} → Verdict → List (Event A) → (Bool → Left A) → Left A
judged (says b) rec k = k b
judged (balks c) rec k = halt (own c) rec

-- "by the first source for the block just left; without one the machine stops"
unfoldable pub source_for : BlockId → List Source → Option Value
source_for b [] = none
source_for b (s ∷ ss) = cond (eqb b.0 s.block.0) (some s.value) (source_for b ss)

-- the block just left, if any: at the start there is none, so that a phi of the entry block has no source then
unfoldable pub source_from : Option BlockId → List Source → Option Value
source_from none ss = none
source_from (some b) ss = source_for b ss

module _ {A : Type 0} (M : Meaning A) (τ : Types) where
  -- one phi's write, behind those before it
  unfoldable pub read_phi : Option BlockId → Option PhiOf → Env A → Writes A → List (Event A) → (Writes A → Left A) → Left A
  read_phi came none E ws rec k = k ws
  read_phi came (some p) E ws rec k =
      needed no_source (source_from came p.sources) rec (λ x.
      needed unwritten (eval M E (row_of τ (some p.type)) x) rec (λ y. k ((p.dest, y) ∷ ws)))

  -- "Phis read together": all from the values that the last block left
  unfoldable pub read_phis : Option BlockId → List Instruction → Env A → Writes A → List (Event A) → (Writes A → Left A) → Left A
  read_phis came [] E ws rec k = k ws
  read_phis came (i ∷ is) E ws rec k = read_phi came (phi_of i.kind) E ws rec (λ ws'. read_phis came is E ws' rec k)

  -- "Return records its values; it and Unreachable end the run"
  unfoldable pub exec_terminator : Terminator → Env A → List (Val A) → List (Event A) → Left A
  exec_terminator (Jump b) E w rec = next b E w rec
  exec_terminator (If x a b) E w rec = needed unwritten (eval M E none x) rec (λ y. next (branch (M.truth y) a b) E w rec)
  exec_terminator (BranchCmp op x y a b) E w rec =
      needed unwritten (eval M E (operand_row τ y) x) rec (λ u. needed unwritten (eval M E (operand_row τ x) y) rec (λ v.
      judged (M.compare op u v) rec (λ c. next (branch c a b) E w rec)))
  exec_terminator (Return xs) E w rec = needed unwritten (eval_all M E no_row xs) rec (λ ys. over at_return (rec ++ (returned ys ∷ [])))
  exec_terminator Unreachable E w rec = over at_unreachable rec

  -- the instructions behind the phis, and the terminator
  unfoldable pub exec_all : List Instruction → Terminator → Env A → List (Val A) → List (Event A) → Left A
  exec_all [] t E w rec = exec_terminator t E w rec
  exec_all (i ∷ is) t E w rec = onward (exec M τ i.kind E w) E rec (λ E' w' rec'. exec_all is t E' w' rec')

  -- the phis, then the rest, with what the phis write
  unfoldable pub exec_block : Option BlockId → Block → Env A → List (Val A) → List (Event A) → Left A
  exec_block came k E w rec =
      read_phis came (phis_of k.instructions) E [] rec
      (λ ws. exec_all (behind_phis k.instructions) k.terminator (write_all ws E) w rec)

-- what a run is where a block ended it, and else what comes behind
unfoldable pub trace : {A : Type 0} → Left A → (BlockId → Env A → List (Val A) → List (Event A) → Trace A) → Trace A
trace (next b E w rec) k = k b E w rec
trace (over e rec) k = record { recorded = rec; standing = ended e }
trace (halt c rec) k = record { recorded = rec; standing = stopped c }

module _ {A : Type 0} (M : Meaning A) (τ : Types) where
  -- a block that the routine does not have (refusal 4) is never begun
  unfoldable pub run_block : Option BlockId → BlockId → Option Block → Env A → List (Val A) → List (Event A)
      → (Env A → List (Val A) → List (Event A) → BlockId → Trace A) → Trace A
  run_block came b none E w rec k = record { recorded = rec; standing = stands_at b }
  run_block came b (some c) E w rec k = trace (exec_block M τ came c E w rec) (λ b' E' w' rec'. k E' w' rec' b')

  -- "A run of n blocks makes fewer if it ends or stops": from block b, the block just left known
  unfoldable pub run_blocks : ℕ → List Block → Option BlockId → BlockId → Env A → List (Val A) → List (Event A) → Trace A
  run_blocks zero ks came b E w rec = record { recorded = rec; standing = stands_at b }
  run_blocks (suc n) ks came b E w rec = run_block came b (get_elem? ks b.0) E w rec (λ E' w' rec' b'. run_blocks n ks (some b) b' E' w' rec')

  -- a parameter taken, or the run has stopped before any block
  unfoldable pub taking : Taken A → (Val A → List (Val A) → Trace A) → Trace A
  taking (took y w) k = k y w
  taking refuses k = record { recorded = []; standing = stopped no_value }
  taking exhausted k = record { recorded = []; standing = stopped no_reply }

  -- "the parameters first"; one too large for the machine has stopped the run before any block
  unfoldable pub take_all : List ValueId → List (Val A) → Env A → (Env A → List (Val A) → Trace A) → Trace A
  take_all [] w E k = k E w
  take_all (p ∷ ps) w E k =
      cond (M.large τ.rows (recorded_type τ p)) (record { recorded = []; standing = stopped too_large })
      (taking (M.take τ.rows (recorded_type τ p) w) (λ y w'. take_all ps w' (write E p y) k))

-- "nothing written"
unfoldable pub none_written : {A : Type 0} → Env A
none_written v = none

-- "A run starts at the entry block with nothing written but the parameters"
unfoldable pub run : {A : Type 0} → Meaning A → Routine → List (Val A) → ℕ → Trace A
run M r w n =
    let τ : Types = record { rows = r.types; recorded = r.recorded } in
    take_all M τ r.parameters w none_written (λ E w'. run_blocks M τ n r.blocks none r.entry E w' [])
