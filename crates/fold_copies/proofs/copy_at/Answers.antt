use mathlib.Core.Path.{ap, sym, ◌∙◌}
use mathlib.Core.Logic.{inl, inr, ⊎_elim}
use Rattle.mir.specs.Kind.{number_of_kind}
use Rattle.fold_copies.proofs.Fields.{found_assign, found_insert}
use Rattle.fold_copies.proofs.copy_at.Goals as goal

pub returns-in-Assign : goal.returns-in-Assign
returns-in-Assign c =
    let a = c.args in
    found_assign a.code a.row.now _ _ _ _ c.instruction.ensures c.own_fields-u.ensures c.source.ensures
    (sym c.in_ok-kind.ensures ∙ ap number_of_kind c.in-Assign.is) c.assigned.ensures

pub returns-in-InsertField : goal.returns-in-InsertField
returns-in-InsertField c =
    let a = c.args in
    found_insert a.code a.row.now _ _ _ _ c.instruction-in-InsertField.ensures c.own_fields-u-in-InsertField.ensures c.source-in-InsertField.ensures
    (⊎_elim (λ e. inl (sym c.in_ok-kind.ensures ∙ ap number_of_kind e)) (λ e. inr (sym c.in_ok-kind.ensures ∙ ap number_of_kind e)) c.in-InsertField.is)
    c.copied.ensures
