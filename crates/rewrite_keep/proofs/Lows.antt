-- How far the output is written behind an instruction, or a Return, and its rebuilds.
use Prim.Native.Nat.{ℕ, ◌+◌, ◌-◌, ◌≤◌}
use mathlib.Core.Path.{◌≡◌, ap}
use native.Mathlib.Omega.{arith}
use Rattle.rewrite.specs.declared.Counts.{Counts}
use Rattle.rewrite_progress.specs.declared.Progress.{Progress}
use Rattle.rewrite_progress.specs.Effect.{Low}
use Rattle.rewrite_before.specs.Materialized.{onward}
use Rattle.rewrite_descent.specs.Descent.{Spacious, Deeper}

-- where the output is low there is room for all rebuilds
pub low_room : (p : Progress) → Low 8000 p → Spacious p
low_room p l = record { to = omega (arith, l.to, l.fresh); fresh = l.fresh }

-- the rebuilds, then one thing more
pub low_further : (next k to lines made : ℕ) (p q s : Progress) → Deeper next p q → to ≤ q.to + 1024 → lines ≤ 1 → made ≡ q.fresh - p.fresh → s ≡ onward q to lines made → Low k p → Low (k + 1) s
low_further next k to lines made p q s d t n m e l =
    rw e (record {
      to = omega (arith, t, d.to, d.taken, l.to);
      lines = omega (arith, n, d.lines, d.fresh, l.lines);
      fresh = d.fresh;
      builds = omega (arith, ap (λ (c : Counts). c.builds) d.counts, l.builds);
      extracts = omega (arith, ap (λ (c : Counts). c.extracts) d.counts, l.extracts);
      inserts = omega (arith, ap (λ (c : Counts). c.inserts) d.counts, l.inserts);
      assigns = omega (arith, ap (λ (c : Counts). c.assigns) d.counts, l.assigns);
      materializations = omega (arith, ap (λ (c : Counts). c.materializations) d.counts, m, d.fresh, l.materializations);
    })
