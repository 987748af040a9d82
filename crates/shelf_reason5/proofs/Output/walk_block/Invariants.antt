use Rattle.shelf_reason5.proofs.Walk.{Walking}
use Rattle.shelf_reason5.proofs.Output.walk_block.Given as goal

abbrev pub invariant-loop-k : goal.invariant-loop-k
invariant-loop-k l = Walking l.self.bounds l.self.bytes.now l.at l.self.dropped.now l.k-end l.k l.here
