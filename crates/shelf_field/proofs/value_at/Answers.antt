use native.Mathlib.Omega.{arith}
use Rattle.shelf_field.proofs.Single.{value_fits}
use Rattle.shelf_field.proofs.value_at.Goals as goal

pub returns : goal.returns
returns c = λ x h.
    let a = c.args in
    (c.value_at.ensures x h, value_fits a.next a.t.now a.at (λ j. omega (arith, c.type_inv.t j)) (omega arith) h)
