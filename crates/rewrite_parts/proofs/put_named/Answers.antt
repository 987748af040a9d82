use Rattle.rewrite_parts.proofs.ByName.{named_more, named_missing, named_all}
use Rattle.rewrite_parts.proofs.put_named.Goals as goal

pub returns-in-None-clause-names_put : goal.returns-in-None-clause-names_put
returns-in-None-clause-names_put c = named_missing c.loop-i.invariant _ c.loop-i-test.true c.name_at-name.ensures c.in-None.ensures

pub loop-i-preserved : goal.loop-i-preserved
loop-i-preserved c =
    named_more c.loop-i.invariant _ _ c.loop-i-test.true c.name_at-name.ensures c.in-Some.ensures c.set_place.ensures

pub returns-clause-names_put : goal.returns-clause-names_put
returns-clause-names_put c = named_all c.loop-i.invariant c.loop-i-test.false
