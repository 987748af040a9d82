use Rattle.bytes_types.proofs.Table.{Reading}
use Rattle.bytes_types.proofs.read_types.Given as goal

abbrev pub invariant-loop-k : goal.invariant-loop-k
invariant-loop-k l = Reading l.limit l.most l.s l.initial.starts l.starts l.k-end l.k l.at
