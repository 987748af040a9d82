use Rattle.std.proofs.Common.{◌∙◌, sym}
use Rattle.mir.specs.declared.shape.Shape.{Shape}
use Rattle.shelf_types.proofs.Fitted.{known_type}
use Rattle.shelf_types.proofs.Numbers.{shape_eq, scalar_some, scalar_none}
use Rattle.shelf_types.proofs.is_scalar_type.Goals as goal

pub returns-then-is_some : goal.returns-then-is_some
returns-then-is_some c = λ τ o a l e.
    c.eq.ensures ∙ shape_eq c.shape_of.result Shape.Other
    ∙ scalar_some τ o (sym (known_type _ o e) ∙ sym c.is_some.ensures ∙ c.if-is_some.true) (c.shape_of.ensures τ o a l e)

pub returns-else-is_some : goal.returns-else-is_some
returns-else-is_some c = λ τ o a l e. c.if-is_some.false ∙ sym (scalar_none τ o (sym (known_type _ o e) ∙ sym c.is_some.ensures ∙ c.if-is_some.false))
