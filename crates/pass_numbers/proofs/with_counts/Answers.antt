-- Each total by its own sum.
use Rattle.pass_numbers.specs.Totals.{with_counts}
use Rattle.pass_numbers.proofs.Laws.{added_min}
use Rattle.pass_numbers.proofs.with_counts.Goals as goal

pub returns : goal.returns
unfolding with_counts
returns c =
    simp (
      added_min,
      c.from-run.ensures,
      c.saturating_add.ensures,
      c.saturating_add-2.ensures,
      c.saturating_add-3.ensures,
      c.saturating_add-4.ensures,
      c.saturating_add-5.ensures,
    )
