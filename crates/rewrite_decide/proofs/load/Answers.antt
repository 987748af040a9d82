use Rattle.rewrite_arms.proofs.Actions.{plans_keep}
use Rattle.rewrite_decide.proofs.Stepping.{load_barred, load_step}
use Rattle.rewrite_decide.proofs.load.Goals as goal

pub returns-then-not-walkable : goal.returns-then-not-walkable
returns-then-not-walkable c = λ σ τ S folds m i used h w e on. plans_keep
    (load_barred h w σ folds m e (λ q o. rw on.1 (c.walkable.ensures i q h.line o)) c.if-not-walkable.true)

pub returns : goal.returns
returns c = λ σ τ S folds m i used h w e on. load_step h w σ folds m e on.0
    (λ q o. rw on.1 (c.walkable.ensures i q h.line o)) c.if-not-walkable.false _ _ c.load_part-found.result c.last_type-t.ensures
    (c.is_aggregate-whole.ensures _ τ h.ground.known.rows h.ground.rows)
    (λ d q y k. c.load_part-found.ensures τ S used i d q y h k)
    (λ o d a. c.plan_take.ensures _ _ _ S _ _ o h.rep d a)
