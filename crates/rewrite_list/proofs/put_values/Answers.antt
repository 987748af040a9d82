use Rattle.rewrite_list.proofs.Valuing.{valuing_again, valuing_done}
use Rattle.rewrite_list.proofs.put_values.Goals as goal

pub loop-i-preserved : goal.loop-i-preserved
loop-i-preserved c =
    valuing_again _ _ _ _ _ _ _ c.loop-i.invariant _ _ _ _ c.loop-i-test.true c.put_wanted_value-w.auto.out
    c.put_wanted_value-w.ensures.to_bound c.value_end-here.ensures.0 c.value_end-here.ensures.1 c.wanted_at-wants.ensures
    c.put_wanted_value-w.ensures.wanted_written

pub returns-clause-all_written : goal.returns-clause-all_written
returns-clause-all_written c = valuing_done _ _ _ _ _ _ _ c.loop-i.invariant c.loop-i-test.false
