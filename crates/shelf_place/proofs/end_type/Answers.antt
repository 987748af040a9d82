use mathlib.Core.Path.{refl, ◌∙◌}
use Rattle.std.proofs.Common.{length}
use native.Mathlib.Nat.{add-zero}
use native.Mathlib.Omega.{arith}
use Rattle.shelf_place.proofs.Places.{walking, walking_next, walking_done}
use Rattle.shelf_place.proofs.end_type.Goals as goal

pub loop-i-init : goal.loop-i-init
loop-i-init c = (omega arith, (omega arith, λ recorded τ o ps g e l h. walking ps o l (add-zero (length ps) ∙ h) e refl))

pub loop-i-preserved : goal.loop-i-preserved
loop-i-preserved c = (
  omega arith,
  (
    omega arith,
    λ recorded τ o ps g e l h.
        walking_next (c.loop-i.invariant.1.1 recorded τ o ps g e l h) c.loop-i-test.true
        (λ o' q z w. c.step_type-there.ensures τ o' g.known.rows g.rows z q (c.step_at-step.ensures q w)) c.projection_end-here.ensures.0,
  ),
)

pub returns : goal.returns
returns c = λ recorded τ o ps g e l h. walking_done (c.loop-i.invariant.1.1 recorded τ o ps g e l h) c.loop-i-test.false
