use Rattle.rewrite_arms.proofs.Sources.{row_found}
use Rattle.rewrite_arms.proofs.struct_type.Goals as goal

pub returns : goal.returns
returns c = λ b s types τ g l. rw c.unwrap_or.ensures (row_found g _ l _ c.recorded_type.ensures _)
