use Rattle.rewrite_decide.proofs.Stepping.{element_step}
use Rattle.rewrite_decide.proofs.extract_element.Goals as goal

pub returns : goal.returns
returns c =
    let from = c.find_source-from.ensures in
    λ slot σ τ S folds m i used h w e on. element_step h w σ folds m e on _ _ _ _ from.value from.end c.u32_at-k.ensures from.named
    (λ d. c.plan_take.ensures _ _ _ S _ _ _ h.rep d (c.part-found.ensures _ _ used S h.rep))
