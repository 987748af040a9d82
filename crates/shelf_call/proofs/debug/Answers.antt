use mathlib.Core.Path.{◌∙◌, sym}
use Rattle.shelf_call.proofs.Listed.{debug_agrees}
use Rattle.shelf_call.proofs.debug.Goals as goal

pub returns : goal.returns
returns c = λ s types τ seen i n g e.
    let a = c.args in
    (debug_agrees a.typing.code.bounds a.t.now seen τ (λ xs l h. c.all_known.ensures s types τ xs g (rw (c.behind-shown.ensures.bytes, c.behind-shown.ensures.place) l) (h ∙ sym c.behind-shown.ensures.many))).each i n e
