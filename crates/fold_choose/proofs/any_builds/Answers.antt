use Rattle.fold_choose.proofs.Buildless.{all_built}
use Rattle.fold_choose.proofs.any_builds.Goals as goal

pub returns : goal.returns
returns c =
    let a = c.args in
    λ e. all_built a.code.facts.now _ c.first_slot-end.result c.first_slot-end.ensures (c.any_build.ensures e)
