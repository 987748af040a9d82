use Rattle.shelf.specs.Agrees.{is_scalar}
use Rattle.shelf_field.proofs.Single.{as_read}
use Rattle.shelf_field.proofs.value_scalar.Goals as goal

pub returns : goal.returns
returns c = λ τ x g h. as_read c.args.typing.code.bounds.next (is_scalar τ) (c.value_at.ensures x h) (c.is_scalar.ensures τ g)
