use Rattle.rewrite_before.proofs.Writing.{anew_written_lem}
use Rattle.rewrite_before.proofs.put_anew.Goals as goal

pub returns-clause-anew_written : goal.returns-clause-anew_written
returns-clause-anew_written c =
    anew_written_lem c.args.values c.args.from _ _ _ _ _ _ _ _ _ _ _ c.between.ensures c.copy_bytes-front.ensures.writes
    c.put_values-back.ensures.all_written c.values_end-behind.ensures.0 c.between-2.ensures c.copy_bytes.ensures.writes
