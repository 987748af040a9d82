use Rattle.rewrite_chains.proofs.Steps.{step_nowhere, step_at}
use Rattle.rewrite_chains.proofs.path.step_part.Goals as goal

pub returns-in_err-k : goal.returns-in_err-k
returns-in_err-k c = λ τ S w h. rw c.from_residual.ensures (step_nowhere τ S _ _ (c.in_err-k.ensures τ w.ground h))

pub returns : goal.returns
returns c = λ τ S w h. rw (step_at τ S _ _ _ (c.in_ok-k.ensures τ w.ground h)) (c.find_part.ensures _ _ w.used S w.rep)
