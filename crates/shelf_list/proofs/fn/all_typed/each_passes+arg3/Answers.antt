use mathlib.Core.Path.{◌∙◌}
use Rattle.shelf_types.proofs.Fitted.{known_type}
use Rattle.shelf_list.proofs.fn.all_typed.each_passes+arg3.Goals as goal

pub returns : goal.returns
returns c = λ s types τ d g h. c.is_some.ensures ∙ known_type _ _ (c.id_type.ensures s types τ d g h)
