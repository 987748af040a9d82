use Rattle.rewrite_head.proofs.Written.{Typed}
use Rattle.rewrite_head.proofs.put_types.Given as goal

abbrev pub invariant-loop-v : goal.invariant-loop-v
invariant-loop-v l = Typed l.values.old.now l.values.fresh.now l.values.next l.values.many l.initial.out l.initial.p l.out l.p l.v
