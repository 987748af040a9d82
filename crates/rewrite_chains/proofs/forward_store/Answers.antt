use Rattle.rewrite_chains.specs.Chained.{of_store}
use Rattle.rewrite_chains.proofs.Stored.{forwards_none, both_facts}
use Rattle.rewrite_chains.proofs.forward_store.Goals as goal

pub returns-in_err-last-clause-store_forwarded : goal.returns-in_err-last-clause-store_forwarded
returns-in_err-last-clause-store_forwarded c =
    λ τ S i p x y o q k.
    rw c.from_residual.ensures
    (both_facts (forwards_none ((c.in_err-last.ensures τ S _ i p o (rw k (of_store p x y))).store x) o.rep))

pub returns-clause-store_forwarded : goal.returns-clause-store_forwarded
returns-clause-store_forwarded c =
    λ τ S i p x y o q k.
    let e = c.in_ok-last.ensures τ S _ i p o (rw k (of_store p x y)) in
    both_facts
    (rw (e.store x)
    (c.store_last.ensures.last_stored τ S x o.ground o.rep q e.below (c.stored_place-place.ensures i p x y o.line k)))
