use Rattle.rewrite_chains.proofs.Stored.{forwards_none, store_missing, store_replaced}
use Rattle.rewrite_chains.proofs.store_part.Goals as goal

pub returns-in_err-find_part-clause-part_stored : goal.returns-in_err-find_part-clause-part_stored
returns-in_err-find_part-clause-part_stored c =
    λ next s S y r q b a. rw c.from_residual.ensures (forwards_none (store_missing S _ _ y (c.in_err-find_part.ensures next s _ S r)) r)

pub returns-clause-part_stored : goal.returns-clause-part_stored
returns-clause-part_stored c =
    λ next s S y r q b a.
    store_replaced S _ _ y (c.in_ok-find_part.ensures next s _ S r) (λ xs ys e f. c.replace-more.ensures.replaced next s S xs ys y r q b e f a)
