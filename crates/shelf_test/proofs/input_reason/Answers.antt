use mathlib.Core.Path.{◌∙◌, sym}
use Rattle.mir.specs.Lookup.{types_in}
use Rattle.shelf_test.proofs.Reasons.{of_order, of_apart, input_1, input_2, input_3, input_0}
use Rattle.shelf_test.proofs.input_reason.Goals as goal

pub returns-then-not-types_agree : goal.returns-then-not-types_agree
returns-then-not-types_agree c = λ x h. input_1 x (sym c.if-not-types_agree.true ∙ c.types_agree.ensures x h.used h.coded h.given)

pub returns-then-not-in_order : goal.returns-then-not-in_order
returns-then-not-in_order c = λ x h.
    input_2 x (sym c.if-not-types_agree.false ∙ c.types_agree.ensures x h.used h.coded h.given)
    (sym c.if-not-in_order.true ∙ of_order x _ (c.in_order.ensures (types_in x) x.blocks h.coded))

pub returns-then-not-kept_apart : goal.returns-then-not-kept_apart
returns-then-not-kept_apart c = λ x h.
    input_3 x (sym c.if-not-types_agree.false ∙ c.types_agree.ensures x h.used h.coded h.given)
    (sym c.if-not-in_order.false ∙ of_order x _ (c.in_order.ensures (types_in x) x.blocks h.coded))
    (sym c.if-not-kept_apart.true ∙ of_apart x _ (c.kept_apart.ensures (types_in x) x.blocks h.coded))

pub returns : goal.returns
returns c = λ x h.
    input_0 x (sym c.if-not-types_agree.false ∙ c.types_agree.ensures x h.used h.coded h.given)
    (sym c.if-not-in_order.false ∙ of_order x _ (c.in_order.ensures (types_in x) x.blocks h.coded))
    (sym c.if-not-kept_apart.false ∙ of_apart x _ (c.kept_apart.ensures (types_in x) x.blocks h.coded))
