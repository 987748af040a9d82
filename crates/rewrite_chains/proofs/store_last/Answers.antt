use Rattle.std.proofs.Common.{arith}
use Rattle.rewrite_chains.proofs.Stored.{forwards_none, last_none, last_some}
use Rattle.rewrite_chains.proofs.store_last.Goals as goal

pub returns-in_err-k-clause-last_stored : goal.returns-in_err-k-clause-last_stored
returns-in_err-k-clause-last_stored c =
    λ τ S y g r tb h a.
    rw c.from_residual.ensures (forwards_none (last_none τ S _ _ y (c.in_err-k.ensures τ g h)) r)

pub returns-clause-last_stored : goal.returns-clause-last_stored
returns-clause-last_stored c =
    λ τ S y g r tb h a.
    rw (last_some τ S _ _ y _ (c.in_ok-k.ensures τ g h))
    (c.store_part.ensures.part_stored _ _ S y r tb (omega (arith, g.few, h)) a)
