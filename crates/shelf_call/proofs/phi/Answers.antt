use mathlib.Core.Path.{◌∙◌, sym}
use mathlib.Core.Option.{some}
use Rattle.shelf_field.proofs.Lines.{and_both}
use Rattle.shelf_call.proofs.Listed.{phi_agrees}
use Rattle.shelf_call.proofs.phi.Goals as goal

pub returns : goal.returns
returns c = λ τ seen i n g e.
    let a = c.args in
    (phi_agrees a.typing.code.bounds a.t.now seen τ (λ d y ss u v l h. let o = c.type_at-y.ensures y v in
    and_both (c.id_has-dest.ensures _ _ τ d (some y) g u o)
    (c.sources_fit-sources.ensures τ (some y) ss g o (rw (c.behind.ensures.bytes, c.behind.ensures.place) l) (h ∙ sym c.behind.ensures.many)))).each i n e
