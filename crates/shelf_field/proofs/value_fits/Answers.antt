use Rattle.shelf.specs.Fits.{fits}
use Rattle.shelf_field.proofs.Single.{as_read}
use Rattle.shelf_field.proofs.value_fits.Goals as goal

pub returns : goal.returns
returns c = λ τ x o g h e. as_read c.args.typing.code.bounds.next (λ z. fits τ z o) (c.value_at.ensures x h) (c.fits.ensures τ o g e)
