-- Demand 3, whole: whoever runs a routine with shelf reason 0 cannot tell whether it was rewritten.
use Rattle.std.specs.Prelude.{ℕ, ◌≡◌, List, Bool, length}
use Rattle.bytes_wire.specs.Parse.{ok}
use Rattle.bytes_wire.specs.WellFormed.{Bytes}
use Rattle.bytes_block.specs.declared.Mosts.{Mosts}
use Rattle.mir.specs.Routine.{Routine}
use Rattle.bytes_sections.specs.Decode.{mosts, whole_of}
use Rattle.fold.specs.declared.Settings.{Settings}
use Rattle.rewrite.specs.declared.Counts.{Counts}
use Rattle.rewrite_laws.specs.Lifted.{lifted}
use Rattle.shelf.specs.Answer.{lowered, answer}
use Rattle.machine.specs.Values.{Val}
use Rattle.machine.specs.Meaning.{Meaning}
use Rattle.machine.specs.Run.{run}
use Rattle.machine_simulation.specs.Statement.{Fine}

-- of the routine that the input's bytes are and of the routine that the output's bytes are, read under mosts of its own: for
-- every outside list and every n, where the original gets through n blocks without stopping at an unwritten value, a missing
-- part or an aggregate too large for the machine (document 01's has none), both runs have the same record and standing, and so
-- the rewritten one has not stopped so either. "What a reader cannot tell apart includes the Debug record" (document 02)
pub record Indistinguishable {A : Type 0} (most : Mosts) (M : Meaning A) (input output : List ℕ) : Type 0 where
  pub original : Routine
  pub rewritten : Routine
  pub read : whole_of mosts input ≡ ok original (length input)
  pub filed : whole_of most output ≡ ok rewritten (length output)
  pub same : (w : List (Val A)) (n : ℕ) → Fine (run M original w n) → run M original w n ≡ run M rewritten w n
  pub fine : (w : List (Val A)) (n : ℕ) → Fine (run M original w n) → Fine (run M rewritten w n)

-- "a routine with shelf reason 0": of every call that lowered its input, whatever the settings, their edition too, and the room
abbrev pub CannotTell : {A : Type 0} → Meaning A → Type 0
CannotTell M =
    (σ : Settings) (room : ℕ) (s : List ℕ) (w : Bool) (c : Counts) (k : ℕ) (bytes : List ℕ)
    → Bytes s
    → answer σ room s ≡ lowered w c k bytes
    → k ≡ 0
    → Indistinguishable (lifted σ) M s bytes
