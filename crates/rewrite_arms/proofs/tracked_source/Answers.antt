use Rattle.std.proofs.Common.{refl}
use Rattle.rewrite_arms.specs.Decided.{nothing}
use Rattle.rewrite_arms.proofs.Sources.{operand_is, no_operand, operand_source}
use Rattle.rewrite_arms.proofs.tracked_source.Goals as goal

pub returns-then-not-whole : goal.returns-then-not-whole
returns-then-not-whole c = λ next s rows used S r. rw c.if-not-whole.true (nothing refl)

pub returns-in_err-v : goal.returns-in_err-v
returns-in_err-v c = λ next s rows used S r. rw (c.from_residual.ensures, c.if-not-whole.false) (nothing (no_operand S _ c.in_err-v.ensures))

pub returns : goal.returns
returns c =
    λ next s rows used S r.
    rw (c.then_some.ensures, c.if-not-whole.false) (operand_source S _ (operand_is _ c.in_ok-v.ensures) (c.tracked.ensures next s rows used S r))
