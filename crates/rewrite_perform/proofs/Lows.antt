-- The numbers of a progress stay low.
use Prim.Native.Nat.{ℕ, ◌+◌, ◌≤◌}
use mathlib.Core.Path.{◌≡◌}
use native.Mathlib.Omega.{arith}
use Rattle.rewrite.specs.declared.Counts.{Counts}
use Rattle.rewrite_progress.specs.declared.Progress.{Progress}
use Rattle.rewrite_progress.specs.Effect.{Low}
use Rattle.rewrite_arms.specs.declared.Counted.{Counted}
use Rattle.rewrite_arms.specs.Decided.{counted_as}
use Rattle.rewrite_perform.specs.Performed.{moved_to, raised_by}

pub low_mono : (k m : ℕ) (p : Progress) → k ≤ m → Low k p → Low m p
low_mono k m p h l =
    record {
      to = omega (arith, l.to);
      lines = omega (arith, l.lines);
      fresh = omega (arith, l.fresh);
      builds = omega (arith, l.builds);
      extracts = omega (arith, l.extracts);
      inserts = omega (arith, l.inserts);
      assigns = omega (arith, l.assigns);
      materializations = omega (arith, l.materializations);
    }

-- some bytes, lines and counts more
module _ (k : ℕ) (p : Progress) (l : Low k p) where
  low_on : (to lines : ℕ) (c : Counts) → to ≤ p.to + 1048576 → lines ≤ p.lines + 1024 → c.builds ≤ 1 → c.extracts ≤ 1 → c.inserts ≤ 1 → c.assigns ≤ 1 → c.materializations ≤ 1 → Low (k + 1) (moved_to (raised_by p c) to lines)
  low_on to lines c a b cb ce ci ca cm =
      record {
        to = omega (arith, l.to);
        lines = omega (arith, l.lines);
        fresh = omega (arith, l.fresh);
        builds = omega (arith, l.builds);
        extracts = omega (arith, l.extracts);
        inserts = omega (arith, l.inserts);
        assigns = omega (arith, l.assigns);
        materializations = omega (arith, l.materializations);
      }

  pub low_raised : (what : Counted) (to lines : ℕ) → to ≤ p.to + 1048576 → lines ≤ p.lines + 1024 → Low (k + 1) (moved_to (raised_by p (counted_as what)) to lines)
  low_raised Counted.Build to lines a b = low_on to lines _ a b (omega arith) (omega arith) (omega arith) (omega arith) (omega arith)
  low_raised Counted.Extract to lines a b = low_on to lines _ a b (omega arith) (omega arith) (omega arith) (omega arith) (omega arith)
  low_raised Counted.Insert to lines a b = low_on to lines _ a b (omega arith) (omega arith) (omega arith) (omega arith) (omega arith)
  low_raised Counted.Assign to lines a b = low_on to lines _ a b (omega arith) (omega arith) (omega arith) (omega arith) (omega arith)

  pub low_moved : (r : Progress) (to lines : ℕ) → r ≡ moved_to p to lines → to ≤ p.to + 1048576 → lines ≤ p.lines + 1024 → Low (k + 1) r
  low_moved r to lines e a b =
      let m = low_mono k (k + 1) p (omega arith) l in
      rw e
      (record {
        to = omega (arith, l.to);
        lines = omega (arith, l.lines);
        fresh = m.fresh;
        builds = m.builds;
        extracts = m.extracts;
        inserts = m.inserts;
        assigns = m.assigns;
        materializations = m.materializations;
      })
