use mathlib.Core.Path.{◌∙◌}
use Rattle.mir.proofs.Numbers.{kind_tag}
use Rattle.fold_choose.proofs.Folding.{decided, decided_none}
use Rattle.fold_choose.proofs.decide_one.Goals as goal

pub returns-then-not-is_build : goal.returns-then-not-is_build
returns-then-not-is_build c =
    let a = c.args in
    decided_none a.settings a.view.shapes.now a.view.graph.now a.looked a.code a.slot _ c.in-Some.ensures
    c.is_build.result c.is_build.ensures c.if-not-is_build.true

pub returns : goal.returns
returns c =
    let a = c.args in
    decided a.settings a.view.shapes.now a.view.graph.now a.looked a.code a.slot _ (kind_tag c.in-Some.kind ∙ c.in-Some.ensures)
    c.dest-v.result.0 c.dest-v.ensures c.folds.result c.folds.ensures
