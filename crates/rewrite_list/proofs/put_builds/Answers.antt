use Rattle.std.proofs.Common.{refl, rules, ◌≡◌}
use Rattle.std.specs.Prelude.{Err}
use Rattle.rewrite_list.proofs.Building.{building_again, building_fault, building_done}
use Rattle.rewrite_list.proofs.put_builds.Goals as goal

pub returns-in_err-q-clause-all_put : goal.returns-in_err-q-clause-all_put
returns-in_err-q-clause-all_put c =
    let z : c.from_residual.result ≡ Err c.in_err-q.field-0.0 = search rules in
    rw z (building_fault _ _ _ _ _ _ _ _ _ c.loop-i.invariant _ _ c.put_wanted.new.work _ c.loop-i-test.true
    c.wanted_at-wants.ensures c.in_err-q.ensures.wanted_put _ refl)

pub loop-i-preserved : goal.loop-i-preserved
loop-i-preserved c =
    building_again _ _ _ _ _ _ _ _ _ c.loop-i.invariant _ _ _ _ c.loop-i-test.true c.wanted_at-wants.ensures
    c.in_ok-q.ensures.wanted_put _ _ refl c.in_ok-q.ensures.put_few
    c.put_wanted.auto.out c.put_wanted.auto.work
    c.in_ok-q.ensures.work_unchanged c.value_end-here.ensures.0 c.value_end-here.ensures.1

pub returns-clause-all_put : goal.returns-clause-all_put
returns-clause-all_put c = building_done _ _ _ _ _ _ _ _ _ c.loop-i.invariant c.loop-i-test.false
