use Rattle.std.proofs.Common.{refl}
use Rattle.rewrite.specs.State.{state_of}
use Rattle.mir.specs.Lookup.{on_some}
use Rattle.rewrite_arms.proofs.Sources.{operand_is, no_operand}
use Rattle.rewrite_arms.proofs.part.Goals as goal

pub returns-in_err-v : goal.returns-in_err-v
unfolding on_some
returns-in_err-v c = λ next s used S r. rw (c.from_residual.ensures, no_operand S _ c.in_err-v.ensures) refl

pub returns : goal.returns
unfolding state_of
returns c = λ next s used S r. rw (operand_is _ c.in_ok-v.ensures) (c.find_part.ensures next s used S r)
