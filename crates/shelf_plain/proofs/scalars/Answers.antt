use Rattle.shelf_field.proofs.Lines.{and_both}
use Rattle.shelf_plain.proofs.scalars.Goals as goal

pub returns : goal.returns
returns c = λ τ d x g p q. and_both (c.id_scalar-made.ensures τ d g p) (c.value_scalar-taken.ensures τ x g q)
