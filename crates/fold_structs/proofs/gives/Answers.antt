use mathlib.Core.Path.{◌∙◌}
use Rattle.fold_structs.proofs.Given.{gives_told}
use Rattle.fold_structs.proofs.gives.Goals as goal

pub returns : goal.returns
returns c next fs a l = c.is_some.ensures ∙ gives_told c.args.inits c.args.name c.find_init.result c.find_init.ensures next fs a l
