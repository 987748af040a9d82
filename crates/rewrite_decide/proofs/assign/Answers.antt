use Rattle.rewrite_decide.proofs.Stepping.{assign_step}
use Rattle.rewrite_decide.proofs.assign.Goals as goal

pub returns : goal.returns
returns c = λ slot σ τ S folds m i used h w e on. assign_step h w σ folds m e _ _ _ c.value_at-x.ensures c.last_type-t.ensures
    (c.is_aggregate-whole.ensures _ τ h.ground.known.rows h.ground.rows)
    (λ d. c.plan_assign.ensures _ _ _ _ _ S _ _ h.rep d)
