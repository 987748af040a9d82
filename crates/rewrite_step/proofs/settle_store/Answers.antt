use mathlib.Core.Path.{refl}
use Rattle.rewrite_step.proofs.Turns.{store_barred, store_forwarded, store_written}
use Rattle.rewrite_step.proofs.settle_store.Goals as goal

pub returns-then-not-walkable-clause-settles_store : goal.returns-then-not-walkable-clause-settles_store
returns-then-not-walkable-clause-settles_store c = let a = c.args in λ τ S folds n i h room z on.
    rw c.staying.ensures
    (store_barred a.turn.settings τ folds S n i a.turn.code.bounds.next a.turn.code.bytes.now a.tracked.now a.rows.now a.used z on
    (λ p o. c.walkable.ensures i p h.line o) c.if-not-walkable.true h.rep)

pub returns-in-Some-clause-settles_store : goal.returns-in-Some-clause-settles_store
returns-in-Some-clause-settles_store c = let a = c.args in λ τ S folds n i h room z on.
    store_forwarded a.turn.settings τ folds S n i a.turn.code.bounds.next a.turn.code.bytes.now _ _ _ z on
    (λ p o. c.walkable.ensures i p h.line o) c.if-not-walkable.false _
    (λ p x t k. c.in-Some.ensures.store_forwarded τ S i p x t h room k) refl

pub returns-in-None-clause-settles_store : goal.returns-in-None-clause-settles_store
returns-in-None-clause-settles_store c = let a = c.args in λ τ S folds n i h room z on.
    rw c.staying.ensures
    (store_written a.turn.settings τ folds S n i a.turn.code.bounds.next a.turn.code.bytes.now _ _ _ z on
    (λ p o. c.walkable.ensures i p h.line o) c.if-not-walkable.false _
    (λ p x t k. c.in-None.ensures.store_forwarded τ S i p x t h room k) refl)
