use Rattle.shelf_plain.proofs.Short.{cast_agrees}
use Rattle.shelf_plain.proofs.cast.Goals as goal

pub returns : goal.returns
returns c = λ τ seen i n g e. (cast_agrees c.args.typing.code.bounds c.args.t.now seen τ (λ d x. c.scalars.ensures τ d x g)).each i n e
