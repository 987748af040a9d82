-- THE THEOREM of demand 3: no hypothesis but that the pass gave shelf reason 0.
use Prim.Native.Nat.{ℕ}
use mathlib.Core.Path.{◌≡◌, ap, ◌∙◌, sym}
use mathlib.Core.List.{List}
use mathlib.Core.Bool.{Bool}
use lib.ListN.{length}
use Rattle.bytes_wire.specs.Parse.{ok}
use Rattle.mir.specs.Routine.{Routine}
use Rattle.bytes_sections.specs.Decode.{mosts, whole_of}
use Rattle.bytes_laws_whole.specs.WellFormed.{WellFormed}
use Rattle.bytes_laws_whole.proofs.Whole.{whole_canon, whole_fit}
use Rattle.bytes_laws_whole.proofs.Example.{mosts_wide}
use Rattle.fold.specs.declared.Settings.{Settings}
use Rattle.rewrite.specs.declared.Counts.{Counts}
use Rattle.rewrite.specs.Run.{choice, rewritten_by, rewritten_blocks, rewrite}
use Rattle.rewrite_laws.proofs.Whole.{output_decodes}
use Rattle.shelf.specs.Reason.{shelf_reason}
use Rattle.shelf.specs.Answer.{Answer, answer}
use Rattle.shelf.proofs.Flag.{answered_under}
use Rattle.machine.specs.Meaning.{Meaning}
use Rattle.machine.specs.Document.{Operations, document01}
use Rattle.machine_simulation.specs.Statement.{RunsAlike}
use Rattle.machine_simulation.proofs.Theorem.{pass_simulates}
use Rattle.machine_claim.specs.Claim.{CannotTell}
use Rattle.machine_claim.proofs.Facts.{static}
use Rattle.machine_claim.proofs.Answered.{from, of_answer}

-- for every meaning, Debug recorded or not: whoever runs a routine whose reason, judged with the meaning's own flag, is 0 cannot tell
pub shelved_alike : {A : Type 0} (M : Meaning A) (σ : Settings) (r : Routine) → WellFormed mosts r → shelf_reason M.debug r (rewritten_blocks σ r) ≡ 0 → RunsAlike M r (rewrite σ r)
unfolding rewritten_blocks
shelved_alike M σ r h e = pass_simulates M σ r (static mosts M.debug σ (choice σ r) r h e)

-- of bytes: for every meaning, whether it records Debug or not, settings, room and bytes
pub indistinguishable : {A : Type 0} (M : Meaning A) → CannotTell M
unfolding RunsAlike rewrite rewritten_by rewritten_blocks
indistinguishable M σ room s w c k bytes b h q =
    elim (of_answer σ room s w c k bytes h) [
      | from r n e f l g u ↦
          let z : n ≡ length s = (whole_canon mosts s b e).1 in
          let ok_all : whole_of mosts s ≡ ok r (length s) = e ∙ ap (λ q. ok r q) z in
          let fit = whole_fit mosts s mosts_wide b e in
          let runs = shelved_alike M σ r fit (answered_under M.debug σ r n (sym g ∙ q)) in
          record {
            original = r;
            rewritten = rewrite σ r;
            read = ok_all;
            filed = rw f (output_decodes σ (choice σ r) r fit u);
            same = runs;
            fine = λ v n p. rw (runs v n p) at p;
          }
    ]

-- on document 01's own machine, with any operations
pub cannot_tell : {A : Type 0} (O : Operations A) → CannotTell (document01 O)
cannot_tell O = indistinguishable (document01 O)
