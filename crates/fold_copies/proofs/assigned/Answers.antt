use mathlib.Core.Path.{ap, sym, ◌∙◌}
use Rattle.bytes_wire.specs.Parse.{as_parse}
use Rattle.mir.specs.Shape.{number_of_shape}
use Rattle.fold_copies.proofs.Fields.{other_shape, assigned_none, assigned_copied}
use Rattle.fold_copies.proofs.assigned.Goals as goal

pub returns-in-Other : goal.returns-in-Other
returns-in-Other c =
    let a = c.args in
    assigned_none a.code a.u.now _ a.x _ _ _ c.in-Ok.is c.behind.ensures c.u16_at.ensures
    c.type_shape.ensures (ap number_of_shape c.in-Other.is)

pub returns-in_default-type_shape : goal.returns-in_default-type_shape
returns-in_default-type_shape c =
    let a = c.args in
    assigned_copied a.code a.u.now _ a.x _ _ _ c.in-Ok.is c.behind.ensures
    c.u16_at.ensures c.type_shape.ensures (other_shape _ c.in_default-type_shape.not-Other) _
    (λ v n e. c.copied.ensures v n (sym (ap as_parse c.in-Ok.is) ∙ e))
