use Rattle.rewrite_build.proofs.Rebuilding.{kept_of}
use Rattle.rewrite_build.proofs.kept_count.Goals as goal

pub returns-clause-of_table : goal.returns-clause-of_table
returns-clause-of_table c = λ most τ h k l. kept_of most τ _ _ _ _ c.type_row.ensures h k l _ _ c.row_keeps.ensures.of_type
