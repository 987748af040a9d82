-- A second run: what the first left is read as the routine that the first made, so that its reason is judged as this one's.
use mathlib.Core.Path.{◌≡◌, refl, sym, ◌∙◌}
use Prim.Native.Nat.{ℕ}
use native.Mathlib.Nat.{add-zero}
use native.Mathlib.Omega.{arith}
use mathlib.Core.Bool.{Bool, true, false, cond, true≢false}
use mathlib.Core.Option.{none}
use mathlib.Core.List.{List, [], ◌∷◌, append-nil}
use lib.ListN.{length}
use Rattle.bytes_wire.specs.Parse.{ok}
use Rattle.bytes_wire.specs.WellFormed.{Bytes}
use Rattle.mir.specs.Lookup.{Types, types_in}
use Rattle.mir.specs.Routine.{Routine}
use Rattle.mir.specs.Syntax.{Block}
use Rattle.bytes_sections.specs.Decode.{mosts, whole_of}
use Rattle.bytes_laws_whole.proofs.Whole.{whole_canon, whole_fit}
use Rattle.bytes_laws_whole.proofs.Example.{mosts_wide}
use Rattle.fold.specs.declared.Settings.{Settings}
use Rattle.rewrite.specs.Piece.{no_counts}
use Rattle.rewrite.specs.Run.{Choice, skip_then, one_block, all_blocks, rewritten_by, rewritten_blocks, rewrite_with}
use Rattle.rewrite_laws.specs.Lifted.{lifted}
use Rattle.rewrite_laws.proofs.Whole.{output_decodes}
use Rattle.shelf.specs.Reads.{with_debug}
use Rattle.shelf.specs.Reason.{types_agree, in_order, kept_apart, no_deep_store, reads_no_dropped, shelf_reason}
use Rattle.shelf.specs.Answer.{reason_of}
use Rattle.machine_claim.proofs.Answered.{from, of_answer}
use Rattle.pass_lasting.specs.Lasting.{SecondRun}
use Rattle.pass_lasting.proofs.Theorem.{well_typed}

-- ---- a routine of which every block is skipped

-- the choice that skips every block
abbrev skips_all : Choice
skips_all = record { folds = λ k v. false; skips = λ k. true }

-- its blocks are as they were, and nothing is taken
all_skipped : (σ : Settings) (τ : Types) (n : ℕ) (ks : List Block)
    → all_blocks σ τ skips_all n ks ≡ record { blocks = ks; dropped = []; fresh = []; counts = no_counts; changed = false; fault = none }
unfolding all_blocks one_block skip_then
all_skipped σ τ n [] = refl
all_skipped σ τ n (k ∷ ks) = rw (all_skipped σ τ n ks)

-- so the routine is its own
skipped_same : (σ : Settings) (r : Routine) → rewrite_with (rewritten_by σ skips_all r) r ≡ r
unfolding rewritten_by rewrite_with
skipped_same σ r = rw (all_skipped σ (types_in r) r.next r.blocks) (rw (add-zero r.next, append-nil r.recorded))

-- nor is it refused
skipped_calm : (σ : Settings) (r : Routine) → (rewritten_by σ skips_all r).fault ≡ none
unfolding rewritten_by
skipped_calm σ r = rw (all_skipped σ (types_in r) r.next r.blocks)

-- so bytes that are a routine are the same one with the mosts lifted
read_lifted : (σ : Settings) (r : Routine) (s : List ℕ) (n : ℕ) → Bytes s → whole_of mosts s ≡ ok r n → whole_of (lifted σ) s ≡ ok r (length s)
read_lifted σ r s n b e =
    rw (whole_canon mosts s b e).0 at
    (rw (skipped_same σ r) at (output_decodes σ skips_all r (whole_fit mosts s mosts_wide b e) (skipped_calm σ r)))

-- ---- the reason of a routine that is well typed

-- is not 1
never_first : (a b c d e : Bool) → a ≡ true → ◌≡◌ {A = ℕ} (cond a (cond b (cond c (cond d (cond e 0 5) 4) 3) 2) 1) 1 → ⊥
never_first true true true true true h z = omega (arith, z)
never_first true true true true false h z = omega (arith, z)
never_first true true true false e h z = omega (arith, z)
never_first true true false d e h z = omega (arith, z)
never_first true false c d e h z = omega (arith, z)
never_first false b c d e h z = absurd (true≢false (sym h))

-- and not 2 where it stands in order
never_second : (a b c d e : Bool) → b ≡ true → ◌≡◌ {A = ℕ} (cond a (cond b (cond c (cond d (cond e 0 5) 4) 3) 2) 1) 2 → ⊥
never_second true true true true true h z = omega (arith, z)
never_second true true true true false h z = omega (arith, z)
never_second true true true false e h z = omega (arith, z)
never_second true true false d e h z = omega (arith, z)
never_second true false c d e h z = absurd (true≢false (sym h))
never_second false b c d e h z = omega (arith, z)

-- ---- twice

-- one routine is read
same_read : (p q : Routine) (m n : ℕ) → ok p m ≡ ok q n → p ≡ q
same_read p q m n e = cc

-- of what the first run left the second answers neither reason
pub second_run : SecondRun
unfolding reason_of shelf_reason
second_run σ σ' room room' s w w' c c' i j bytes bytes' b b' h h' not_1 =
    let q = well_typed σ room s w c i bytes b h not_1 in
    elim (of_answer σ' room' bytes w' c' j bytes' h') [
      | from r n e f l g u ↦
          let same : q.routine ≡ r = same_read q.routine r (length bytes) (length bytes) (sym q.filed ∙ read_lifted σ r bytes n b' e) in
          let v = rewritten_blocks σ' r in (
            λ z. never_first (types_agree with_debug r) (in_order with_debug r) (kept_apart r) (no_deep_store v.dropped r)
                (reads_no_dropped with_debug v.dropped v.blocks) (rw same at q.agrees) (sym g ∙ z),
            λ not_2 z. never_second (types_agree with_debug r) (in_order with_debug r) (kept_apart r) (no_deep_store v.dropped r)
                (reads_no_dropped with_debug v.dropped v.blocks) (rw same at (q.ordered not_2)) (sym g ∙ z),
          )
    ]
