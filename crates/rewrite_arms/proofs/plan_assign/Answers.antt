use Rattle.rewrite_arms.proofs.Actions.{no_parts, has, has_parts, assign_stays, assign_shares}
use Rattle.rewrite_arms.proofs.plan_assign.Goals as goal

pub returns-in-None : goal.returns-in-None
returns-in-None c =
    λ next s facts rows used S stay p r d. assign_stays _ (no_parts (c.tracked_source.ensures next s _ _ S r) c.in-None.is)

pub returns-in-Some : goal.returns-in-Some
returns-in-Some c =
    λ next s facts rows used S stay p r d. elim (has_parts (c.tracked_source.ensures next s _ _ S r) c.in-Some.is) [
      | has xs e f ↦ assign_shares d _ _ xs e f
    ]
