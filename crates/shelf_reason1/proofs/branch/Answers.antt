use Rattle.shelf_field.proofs.Lines.{and_both}
use Rattle.shelf_field.proofs.Single.{value_moved}
use Rattle.shelf_reason1.proofs.Ends.{branch_agrees}
use Rattle.shelf_reason1.proofs.branch.Goals as goal

pub returns : goal.returns
returns c = λ τ i n g e.
    let a = c.args in
    (branch_agrees a.typing.code.bounds a.t.now τ (λ x y p q. and_both (c.value_scalar-left.ensures τ x g p)
    (c.value_scalar-right.ensures τ y g (value_moved c.value_end.ensures.0 q)))).each i n e
