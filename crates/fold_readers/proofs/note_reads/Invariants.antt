use Rattle.fold_readers.proofs.Noting.{Via}
use Rattle.fold_readers.proofs.note_reads.Given as goal

abbrev pub invariant-loop-k : goal.invariant-loop-k
invariant-loop-k l = Via l.own.number l.facts l.slot l.n l.initial.readers l.readers l.k
