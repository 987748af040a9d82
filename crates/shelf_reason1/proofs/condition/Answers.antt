use mathlib.Core.Path.{ap, ◌∙◌}
use Rattle.bytes_wire.specs.WellFormed.{FitValue}
use Rattle.shelf.specs.Agrees.{is_condition}
use Rattle.shelf_reason1.proofs.Ends.{if_agrees}
use Rattle.shelf_reason1.proofs.condition.Goals as goal

pub returns : goal.returns
returns c = λ τ i n g e.
    let a = c.args in
    (if_agrees a.typing.code.bounds a.t.now τ (λ x w.
    let v = c.value_at.ensures x w in
    let f : FitValue a.typing.code.bounds.next c.value_at.result = rw v.0 v.1 in
    c.is_condition.ensures τ g f ∙ ap (is_condition τ) v.0)).each i n e
