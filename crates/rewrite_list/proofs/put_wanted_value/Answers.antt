use Rattle.rewrite_list.proofs.Joining.{one_stays}
use Rattle.rewrite_list.proofs.Valuing.{value_stays, one_valued}
use Rattle.rewrite_list.proofs.put_wanted_value.Goals as goal

pub returns-in-None-clause-wanted_written : goal.returns-in-None-clause-wanted_written
returns-in-None-clause-wanted_written c = λ τ S x o k h v.
    value_stays _ x _ _ _ _ _ (one_stays τ S _ x o k c.in-None.is) (c.put_value_at-to.ensures.writes x v)

pub returns-in-Some-clause-wanted_written : goal.returns-in-Some-clause-wanted_written
returns-in-Some-clause-wanted_written c = λ τ S x o k h v.
    one_valued τ S _ x o _ _ _ _ _ _ _ c.args.wants k c.in-Some.is h c.fresh_value-d.ensures c.put_value-to.ensures
