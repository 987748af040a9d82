use Rattle.rewrite_chains.proofs.Steps.{read_value}
use Rattle.rewrite_chains.proofs.path.operand_at.Goals as goal

pub returns : goal.returns
returns c = λ x b l h. rw c.operand.ensures (read_value _ _ (c.value_at.ensures x h) b l h)
