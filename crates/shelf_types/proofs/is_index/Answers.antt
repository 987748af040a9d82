use Rattle.std.proofs.Common.{refl, ◌∙◌}
use Rattle.shelf_types.proofs.Fitted.{same_literals, index_kind}
use Rattle.shelf_types.proofs.is_index.Goals as goal

pub returns : goal.returns
returns c = λ τ g h. c.eq.ensures ∙ same_literals _ _ (c.literals_of.ensures τ g h) refl ∙ index_kind τ c.args.x
