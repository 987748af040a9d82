use mathlib.Core.Option.{some}
use Rattle.shelf_field.proofs.Lines.{and_both}
use Rattle.shelf_plain.proofs.Short.{assign_agrees}
use Rattle.shelf_plain.proofs.assign.Goals as goal

pub returns : goal.returns
returns c = λ τ seen i n g e.
    (assign_agrees c.args.typing.code.bounds c.args.t.now seen τ c.value_end.ensures.0 (λ d x y p q u. let w = c.type_at-y.ensures y u in
    and_both (c.id_has-dest.ensures _ _ τ d (some y) g p w) (c.value_fits-source.ensures τ x (some y) g q w))).each i n e
