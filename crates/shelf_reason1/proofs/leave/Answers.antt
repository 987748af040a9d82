use mathlib.Core.Path.{◌∙◌, sym}
use Rattle.shelf_reason1.proofs.Ends.{return_agrees}
use Rattle.shelf_reason1.proofs.leave.Goals as goal

pub returns : goal.returns
returns c = λ τ i n g e.
    (return_agrees c.args.typing.code.bounds c.args.t.now τ (λ xs l h. c.all_known.ensures _ _ τ xs g (rw (c.behind.ensures.bytes, c.behind.ensures.place) l) (h ∙ sym c.behind.ensures.many))).each i n e
