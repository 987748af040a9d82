use Rattle.rewrite_decide.proofs.Stepping.{insert_element_step}
use Rattle.rewrite_decide.proofs.insert_element.Goals as goal

pub returns : goal.returns
returns c =
    let from = c.find_source-from.ensures in
    λ slot σ τ S folds m i used h w e on. insert_element_step h w σ folds m e on _ _ _ from.value from.end c.u32_at-k.ensures
    (λ y d v. c.plan_insert.ensures _ _ _ used S _ _ y h.rep d v)
