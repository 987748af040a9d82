use mathlib.Core.Path.{ap, ◌∙◌}
use Rattle.mir.specs.Lookup.{is_some}
use Rattle.fold_climb.proofs.Decide.{some_option}
use Rattle.fold_climb.proofs.can_scalarize.Goals as goal

pub returns : goal.returns
returns c = c.is_some.ensures ∙ some_option c.climb.result ∙ ap is_some c.climb.ensures
