use Rattle.fold_readers.proofs.Blocks.{Reading}
use Rattle.fold_readers.proofs.note_block.Given as goal

abbrev pub invariant-loop-k : goal.invariant-loop-k
invariant-loop-k l = Reading l.own.number l.facts l.slots l.initial.readers l.readers l.k
