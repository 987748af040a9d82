use Rattle.rewrite.specs.Rebuild.{return_type}
use Rattle.shelf_field.proofs.Single.{as_read}
use Rattle.shelf_field.proofs.operand_type.Goals as goal

pub returns : goal.returns
returns c = λ s types τ x g h. as_read c.args.typing.code.bounds.next (return_type τ) (c.value_at.ensures x h) (c.value_type.ensures _ s types τ g)
