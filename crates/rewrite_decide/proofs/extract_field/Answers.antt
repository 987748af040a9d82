use Rattle.rewrite_decide.proofs.Stepping.{field_step}
use Rattle.rewrite_decide.proofs.extract_field.Goals as goal

pub returns : goal.returns
returns c =
    let from = c.find_source-from.ensures in
    λ slot σ τ S folds m i used h w e on. field_step h w σ folds m e on _ _ _ _ from.value from.end c.u16_at.ensures from.named
    (λ q d. c.plan_take.ensures _ _ _ S _ _ _ h.rep d (c.field_part-found.ensures τ used S h.ground q h.rep))
