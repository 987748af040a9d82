use Rattle.rewrite_build.proofs.Writing.{fields_again, fields_done}
use Rattle.rewrite_build.proofs.put_fields.Goals as goal

pub loop-i-preserved : goal.loop-i-preserved
loop-i-preserved c =
    let e = c.put_part-p.ensures in
    fields_again _ _ _ _ _ _ _ _ c.loop-i.invariant _ _ _ _ c.loop-i-test.true c.field_name.ensures c.put_name_id.ensures
    c.put_part-p.auto.out e.upper_bound e.of_parts

pub returns-clause-of_parts : goal.returns-clause-of_parts
returns-clause-of_parts c = fields_done _ _ _ _ _ _ _ _ c.loop-i.invariant c.loop-i-test.false
