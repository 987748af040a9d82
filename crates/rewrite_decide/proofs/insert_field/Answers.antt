use Rattle.std.proofs.Common.{refl}
use Rattle.rewrite_arms.proofs.Actions.{plans_keep}
use Rattle.rewrite_decide.proofs.Stepping.{insert_field_step, insert_field_unknown}
use Rattle.rewrite_decide.proofs.insert_field.Goals as goal

pub returns-in-None : goal.returns-in-None
returns-in-None c =
    let from = c.find_source-from.ensures in
    λ slot σ τ S folds m i used h w e on. plans_keep
    (insert_field_unknown h w σ folds m e on _ _ _ _ from.end c.u16_at.ensures from.named
    (c.in-None.ensures _ τ.rows h.ground.known.rows h.ground.rows) refl)

pub returns-in-Some : goal.returns-in-Some
returns-in-Some c =
    let from = c.find_source-from.ensures in
    λ slot σ τ S folds m i used h w e on. insert_field_step h w σ folds m e on _ _ _ _ from.end c.u16_at.ensures from.named
    (c.in-Some.ensures _ τ.rows h.ground.known.rows h.ground.rows) _ _ from.value refl
    (λ y d v. c.plan_insert.ensures _ _ _ used S _ _ y h.rep d v)
