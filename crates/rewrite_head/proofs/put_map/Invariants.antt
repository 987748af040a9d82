use Rattle.rewrite_head.proofs.Written.{Mapped}
use Rattle.rewrite_head.proofs.put_map.Given as goal

abbrev pub invariant-loop-k : goal.invariant-loop-k
invariant-loop-k l = Mapped l.values.old.now l.values.fresh.now l.values.next l.values.many l.bytes l.initial.out l.to l.out l.k
