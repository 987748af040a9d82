use Rattle.rewrite_before.proofs.Writing.{call_written_lem}
use Rattle.rewrite_before.proofs.put_call_anew.Goals as goal

pub returns-clause-call_written : goal.returns-clause-call_written
returns-clause-call_written c =
    call_written_lem c.args.values c.args.from _ c.args.out.now _ _ _ c.put_kind.ensures c.put_anew.ensures.anew_written
