use Rattle.rewrite.proofs.StaysStates.{stays_states}
use Rattle.rewrite_decide.proofs.decide.Goals as goal

pub returns-clause-step_decided : goal.returns-clause-step_decided
returns-clause-step_decided c = λ τ S folds m i h q n3 n6 f.
    c.carry_out.ensures.carried_out _ S _ _ (c.plan-what.ensures τ S folds m i c.args.used h c.find_spot-p.ensures n3 n6 f) h.rep h.ground.few q (stays_states _ τ S m i)
