use Rattle.fold_readers.proofs.Blocks.{Noting}
use Rattle.fold_readers.proofs.note_readers.Given as goal

abbrev pub invariant-loop-k : goal.invariant-loop-k
invariant-loop-k l = Noting l.code.facts.now l.code.bounds.blocks l.initial.readers l.readers l.k
