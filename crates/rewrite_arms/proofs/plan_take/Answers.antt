use Rattle.std.proofs.Common.{refl}
use Rattle.rewrite_arms.proofs.Actions.{no_parts, has, has_parts, take_stays, take_assigns, take_shares}
use Rattle.rewrite_arms.proofs.plan_take.Goals as goal

pub returns-in_default : goal.returns-in_default
returns-in_default c = λ facts rows used S stay p o r d a. take_stays _ _ o (rw c.in_default.is at a)

pub returns-in-None : goal.returns-in-None
returns-in-None c =
    λ facts rows used S stay p o r d a.
    let h = rw c.in-Some.is at a in
    take_assigns d _ _ o h.value h.is (rw (c.value_at-x.ensures h.value h.stands) at (no_parts (c.in-None.ensures _ _ _ _ S r) refl)) h.stands

pub returns-in-Some-tracked_source : goal.returns-in-Some-tracked_source
returns-in-Some-tracked_source c =
    λ facts rows used S stay p o r d a.
    let h = rw c.in-Some.is at a in
    elim (has_parts (c.in-Some-tracked_source.ensures _ _ _ _ S r) refl) [
      | has xs f k ↦ take_shares d _ _ o h.value _ xs h.is (rw (c.value_at-x.ensures h.value h.stands) at f) k
    ]
