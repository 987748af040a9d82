use Rattle.rewrite_build.proofs.Rebuilding.{clash_of}
use Rattle.rewrite_build.proofs.clashes_at.Goals as goal

pub returns : goal.returns
returns c = λ most τ h k l xs n.
    clash_of most τ _ _ _ _ c.type_row.ensures h k l xs _ (λ i o j U b e. c.array_clashes.ensures i o j U b e xs n)
