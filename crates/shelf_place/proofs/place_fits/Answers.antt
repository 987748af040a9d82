use Prim.Native.Nat.{◌+◌}
use mathlib.Core.Path.{◌≡◌, ◌∙◌, sym}
use mathlib.Core.Option.{some}
use native.Mathlib.Omega.{arith}
use Rattle.shelf.specs.Agrees.{reached, place_fits}
use Rattle.shelf_field.proofs.Lines.{and_both}
use Rattle.shelf_place.proofs.place_fits.Goals as goal

pub returns : goal.returns
unfolding place_fits
returns c = λ τ p y g w e.
    let l = c.behind-steps.ensures in
    let z : c.behind-steps.result.at ≡ c.args.at + 3 = omega (arith, l.place) in
    let m = w.many ∙ sym l.many in
    and_both
    (c.same_type-same.ensures (reached τ p) (some y) (c.reached_type-there.ensures _ τ p g (c.id_type-base.ensures _ _ τ p.base g w.base) (rw (l.bytes, z) w.steps) m) e)
    (c.indexes_fit-all.ensures τ p.projections g (rw (l.bytes, z) w.steps) m)
