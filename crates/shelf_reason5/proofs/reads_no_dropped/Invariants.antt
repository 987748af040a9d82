use Rattle.shelf_reason5.proofs.Blocks.{Over}
use Rattle.shelf_reason5.proofs.reads_no_dropped.Given as goal

abbrev pub invariant-loop-k : goal.invariant-loop-k
invariant-loop-k l = Over l.output.bounds l.output.bytes.now l.at l.output.dropped.now l.many l.k l.here
