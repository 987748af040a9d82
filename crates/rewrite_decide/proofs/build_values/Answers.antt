use Rattle.rewrite_decide.proofs.Carried.{list_tracked}
use Rattle.rewrite_decide.proofs.build_values.Goals as goal

pub returns-clause-values_built : goal.returns-clause-values_built
returns-clause-values_built c = λ next S stay x rep room d g.
    list_tracked next _ S stay _ x _ _ _ _ _ _ _ c.listed.ensures c.track_values-to.ensures.values_tracked rep room d g
