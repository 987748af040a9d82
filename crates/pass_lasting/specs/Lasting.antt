-- "A routine with shelf reason 0 comes out with neither reason 1 nor reason 2 when its output is judged by the same two conditions, in
-- both editions" (document 02, wish 12).
use Rattle.std.specs.Prelude.{ℕ, ◌≡◌, List, Bool, true, length}
use Rattle.bytes_wire.specs.Parse.{ok}
use Rattle.bytes_wire.specs.WellFormed.{Bytes}
use Rattle.bytes_block.specs.declared.Mosts.{Mosts}
use Rattle.mir.specs.Routine.{Routine}
use Rattle.bytes_sections.specs.Decode.{whole_of}
use Rattle.fold.specs.declared.Settings.{Settings}
use Rattle.rewrite.specs.declared.Counts.{Counts}
use Rattle.rewrite.specs.Run.{Choice}
use Rattle.rewrite_laws.specs.Lifted.{lifted}
use Rattle.shelf.specs.Reads.{with_debug}
use Rattle.shelf.specs.Reason.{types_agree, in_order}
use Rattle.shelf.specs.Answer.{lowered, answer}
use Rattle.machine_simulation.specs.Statement.{rewritten}

-- without reason 1 before, without it after, whatever is folded and skipped
abbrev pub TypesLast : Bool → Settings → Choice → Routine → Type 0
TypesLast debug σ c r = types_agree debug r ≡ true → types_agree debug (rewritten σ c r) ≡ true

-- the same of the second of the two conditions alone
abbrev pub OrderLasts : Bool → Settings → Choice → Routine → Type 0
OrderLasts debug σ c r = in_order debug r ≡ true → in_order debug (rewritten σ c r) ≡ true

-- bytes that are a routine, read under mosts of its own, without reason 1 as a call judges it (Debug counts); where the reason k of
-- the routine that it was made from is not 2 either, without reason 2
pub record WellTyped (most : Mosts) (k : ℕ) (output : List ℕ) : Type 0 where
  pub routine : Routine
  pub filed : whole_of most output ≡ ok routine (length output)
  pub agrees : types_agree with_debug routine ≡ true
  pub ordered : (k ≡ 2 → ⊥) → in_order with_debug routine ≡ true

-- of every call that lowered its input, whatever the settings, their edition too, and the room: "the byte form's size limits aside".
-- Reasons 3 to 5 are no matter: reason 0 is one case
abbrev pub StaysWellTyped : Type 0
StaysWellTyped =
    (σ : Settings) (room : ℕ) (s : List ℕ) (w : Bool) (c : Counts) (k : ℕ) (bytes : List ℕ)
    → Bytes s
    → answer σ room s ≡ lowered w c k bytes
    → (k ≡ 1 → ⊥)
    → WellTyped (lifted σ) k bytes

-- "Teachers lower a routine twice by mistake": a second call, over the bytes that the first left, under any settings and in any room,
-- answers no reason 1 where the first did not, and neither 1 nor 2 where the first answered neither
abbrev pub SecondRun : Type 0
SecondRun =
    (σ σ' : Settings) (room room' : ℕ) (s : List ℕ) (w w' : Bool) (c c' : Counts) (i j : ℕ) (bytes bytes' : List ℕ)
    → Bytes s
    → Bytes bytes
    → answer σ room s ≡ lowered w c i bytes
    → answer σ' room' bytes ≡ lowered w' c' j bytes'
    → (i ≡ 1 → ⊥)
    → (j ≡ 1 → ⊥) × ((i ≡ 2 → ⊥) → j ≡ 2 → ⊥)
