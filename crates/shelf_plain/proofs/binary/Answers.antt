use Rattle.shelf_field.proofs.Lines.{and_both}
use Rattle.shelf_plain.proofs.Short.{binary_agrees}
use Rattle.shelf_plain.proofs.binary.Goals as goal

pub returns : goal.returns
returns c = λ τ seen i n g e.
    (binary_agrees c.args.typing.code.bounds c.args.t.now seen τ c.value_end.ensures.0 (λ d x y p q u. and_both (c.id_scalar-result.ensures τ d g p)
    (and_both (c.value_scalar-left.ensures τ x g q) (c.value_scalar-right.ensures τ y g u)))).each i n e
