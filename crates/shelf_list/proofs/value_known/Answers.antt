use Rattle.shelf.specs.Agrees.{is_known}
use Rattle.shelf_field.proofs.Single.{as_read}
use Rattle.shelf_list.proofs.value_known.Goals as goal

pub returns : goal.returns
returns c = λ s types τ x g h.
    as_read c.args.typing.code.bounds.next (is_known τ) (c.value_at-x.ensures x h) (λ w. c.is_known.ensures τ g.known.recorded_types g.known.long (rw (← g.values) at w))
