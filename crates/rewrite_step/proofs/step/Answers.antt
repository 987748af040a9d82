use Rattle.std.proofs.Common.{refl, rules, ◌≡◌, Err}
use Rattle.rewrite_step.specs.Stepping.{lent_as}
use Rattle.rewrite_step.proofs.Turns.{fault_too, went_too, step_turn}
use Rattle.rewrite_step.proofs.step.Goals as goal

pub returns-in_err-progress-clause-steps_on : goal.returns-in_err-progress-clause-steps_on
returns-in_err-progress-clause-steps_on c =
    let a = c.args in
    let e : c.from_residual.result ≡ Err c.in_err-progress.field-0.0 = search rules in
    step_turn a.turn.code a.turn.settings a.turn.slot a.turn.fold
    (lent_as a.tracked.now a.dropped.now a.work.now a.out.now) a.w _ _ _ _ _ _ _ _ c.requires.1.1
    c.settle-d.auto.rows c.settle-d.ensures.settles_all c.carry_out.ensures.puts_piece c.carry_out.ensures.work_unchanged
    (fault_too _ c.in_err-progress.was e)

pub returns : goal.returns
returns c =
    let a = c.args in record {
      by_index = λ k l. (c.in_ok-progress.ensures.by_index k l, c.settle-d.ensures.used_bound);
      steps_on = step_turn a.turn.code a.turn.settings a.turn.slot a.turn.fold
          (lent_as a.tracked.now a.dropped.now a.work.now a.out.now) a.w _ _ _ _ _ _ _ _ c.requires.1.1
          c.settle-d.auto.rows c.settle-d.ensures.settles_all c.carry_out.ensures.puts_piece c.carry_out.ensures.work_unchanged
          (went_too _ c.in_ok-progress.was refl);
    }
