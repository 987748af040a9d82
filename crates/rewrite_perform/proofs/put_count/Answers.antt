use Rattle.rewrite_perform.proofs.Counting.{count_went}
use Rattle.rewrite_perform.proofs.put_count.Goals as goal

pub returns-clause-count_put : goal.returns-clause-count_put
returns-clause-count_put c = rw c.in_ok-q.was
    (count_went c.args.p c.in_ok-q.q _ c.args.out.now _ c.put_u16.ensures c.moved.ensures)
