use mathlib.Core.Option.{some}
use Rattle.shelf_field.proofs.Lines.{and_both}
use Rattle.shelf_parts.proofs.put_in.Goals as goal

pub returns : goal.returns
returns c = λ τ d x z y o g p q r u e.
    and_both (c.id_has-same.ensures _ _ τ d (some y) g p u)
    (and_both (c.value_fits-old.ensures τ x (some y) g q u) (c.value_fits-new.ensures τ z o g r e))
