use Rattle.rewrite_build.specs.Written.{renumbered}
use Rattle.rewrite_build.proofs.Rebuilding.{made_of}
use Rattle.rewrite_build.proofs.put_numbered.Goals as goal

pub returns-clause-of_table : goal.returns-clause-of_table
returns-clause-of_table c = λ most τ h k l xs r n m.
    made_of most τ _ _ _ _ c.type_row.ensures h k l (renumbered c.args.parts.nums.now xs) c.args.d _ _ _ _
    (λ i o j U b e. c.put_make.ensures.of_type i o j U b e xs r n m)
