-- A run over the blocks is that of the definition.
use Prim.Native.Nat.{ℕ, ◌+◌, ◌≤◌, ◌<◌}
use mathlib.Core.Path.{◌≡◌, refl, ap, ◌∙◌}
use mathlib.Core.List.{List}
use native.Mathlib.Nat.{zero-add}
use native.Mathlib.Omega.{arith}
use lib.ListN.{length, take}
use lib.Seq.{length-sets}
use Rattle.bytes_field.specs.declared.Bounds.{Bounds}
use Rattle.mir.specs.Lookup.{types_in}
use Rattle.fold.specs.declared.Settings.{Settings}
use Rattle.fold.specs.Family.{Marks}
use Rattle.rewrite.specs.Run.{Rewritten, choice, all_blocks, rewritten_blocks}
use Rattle.rewrite_progress.specs.Effect.{output_of, Output, further, behind, rewritten_effect, Puts}
use Rattle.std.specs.Prelude.{Result}
use Rattle.rewrite.specs.declared.Fault.{Fault}
use Rattle.rewrite_progress.specs.declared.Progress.{Progress}
use Rattle.pass_input.specs.Accepted.{Accepted}
use Rattle.pass_input.proofs.Accepted.{next_is, next_few}
use Rattle.pass_input.proofs.Copied.{take_sets}
use Rattle.pass_blocks.specs.Runs.{body_of, start_at, Runs, Begun}

runs_from_lem : (w : Rewritten) (to : ℕ) (out fresh out' fresh' : List ℕ) (dropped dropped' : Marks) (r : Result Progress Fault) → Puts (output_of out fresh dropped (start_at to)) (rewritten_effect w) (λ lines. w.fault) out' fresh' dropped' r → Runs w to out fresh dropped out' fresh' dropped' r
unfolding behind further rewritten_effect
runs_from_lem w to out fresh out' fresh' dropped dropped' r h =
    record {
      refused = h.refused;
      went = λ p e.
          let q = h.went p e in
          record {
            calm = q.0;
            written = ap (λ (o : Output). o.buffer) q.1;
            taken = ap (λ (o : Output). o.types) q.1;
            place = ap (λ (o : Output). o.progress.to) q.1;
            many = ap (λ (o : Output). o.progress.fresh) q.1 ∙ zero-add (length w.fresh);
            counted = ap (λ (o : Output). o.progress.counts) q.1 ∙ simp (zero-add);
            marks = ap (λ (o : Output). o.dropped) q.1;
          };
    }

module _ {s facts : List ℕ} {b : Bounds} (a : Accepted s facts b) (σ : Settings) where
  -- the blocks of an accepted routine, from its next value on
  abbrev run : Rewritten
  run = all_blocks σ (types_in a.routine) (choice σ a.routine) (b.next + 0) a.routine.blocks

  same_run : run ≡ rewritten_blocks σ a.routine
  unfolding rewritten_blocks
  same_run =
      let e : b.next + 0 ≡ a.routine.next = omega (arith, next_is a) in
      ap (λ n. all_blocks σ (types_in a.routine) (choice σ a.routine) n a.routine.blocks) e

  pub run_bound : b.next + 0 < 65536
  run_bound = omega (arith, next_few a)

  pub runs_chosen : (to : ℕ) (out fresh out' fresh' : List ℕ) (dropped dropped' : Marks) (r : Result Progress Fault) → Puts (output_of out fresh dropped (start_at to)) (rewritten_effect run) (λ lines. run.fault) out' fresh' dropped' r → Runs (rewritten_blocks σ a.routine) to out fresh dropped out' fresh' dropped' r
  runs_chosen to out fresh out' fresh' dropped dropped' r h = rw (← same_run) (runs_from_lem run to out fresh out' fresh' dropped dropped' r h)

  -- from a progress that begins
  pub runs_begun : (to : ℕ) (p : Progress) → p ≡ start_at to → (out fresh out' fresh' : List ℕ) (dropped dropped' : Marks) (r : Result Progress Fault)
      → (p.lines ≡ 0 → b.next + p.fresh < 65536 → Puts (output_of out fresh dropped p) (rewritten_effect (all_blocks σ (types_in a.routine) (choice σ a.routine) (b.next + p.fresh) a.routine.blocks)) (λ lines. (all_blocks σ (types_in a.routine) (choice σ a.routine) (b.next + p.fresh) a.routine.blocks).fault) out' fresh' dropped' r)
      → Runs (rewritten_blocks σ a.routine) to out fresh dropped out' fresh' dropped' r
  runs_begun to p e out fresh out' fresh' dropped dropped' r put = let f = rw e at put in runs_chosen to out fresh out' fresh' dropped dropped' r (f refl run_bound)

-- a progress with nothing but a place begins there
pub begins : (to l f b e i s m : ℕ) → l ≡ 0 → f ≡ 0 → b ≡ 0 → e ≡ 0 → i ≡ 0 → s ≡ 0 → m ≡ 0 → ◌≡◌ {A = Progress} (record { to = to; lines = l; fresh = f; counts = record { builds = b; extracts = e; inserts = i; assigns = s; materializations = m } }) (start_at to)
begins to l f b e i s m x₁ x₂ x₃ x₄ x₅ x₆ x₇ = rw (x₁, x₂, x₃, x₄, x₅, x₆, x₇) refl

-- all of it stands in the buffer, where that is long enough
pub begun_all : (w : Rewritten) (body : List ℕ) (size : ℕ) → Begun w body size → size ≤ length body → take size body ≡ body_of w
begun_all w body size h l = ap (λ n. take n body) h.place ∙ ap (take (length (body_of w))) h.written ∙ take_sets (body_of w) h.buffer (omega (arith, h.place, ap length h.written, length-sets h.buffer 0 (body_of w)))
