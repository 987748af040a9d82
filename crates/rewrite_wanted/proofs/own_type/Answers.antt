use Rattle.std.proofs.Common.{refl}
use Rattle.rewrite_wanted.proofs.Asking.{own_some, own_none}
use Rattle.rewrite_wanted.proofs.own_type.Goals as goal

pub returns-in_err-recorded : goal.returns-in_err-recorded
returns-in_err-recorded c = λ τ g l. rw (c.from_residual.ensures, own_none τ _ (c.in_err-recorded.ensures τ g l)) refl

pub returns : goal.returns
returns c = λ τ g l. rw (own_some τ _ _ (c.in_ok-recorded.ensures τ g l)) (c.aggregate.ensures τ g)
