use Rattle.rewrite_chains.specs.Chained.{of_load}
use Rattle.rewrite_chains.proofs.Walks.{here_walks}
use Rattle.rewrite_chains.proofs.load_part.Goals as goal

pub returns-in_err-last : goal.returns-in_err-last
returns-in_err-last c = λ τ S used i d p y o k. rw c.from_residual.ensures (c.in_err-last.ensures τ S used i p o (rw k (of_load d p y))).load

pub returns : goal.returns
returns c =
    λ τ S used i d p y o k.
    let e = c.in_ok-last.ensures τ S used i p o (rw k (of_load d p y)) in
    rw e.load (c.step_part.ensures τ S (here_walks o) e.below)
