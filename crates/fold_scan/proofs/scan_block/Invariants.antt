use Rattle.fold_scan.proofs.Blocks.{Scanning}
use Rattle.fold_scan.proofs.scan_block.Given as goal

abbrev pub invariant-loop-k : goal.invariant-loop-k
invariant-loop-k l = Scanning l.code l.slots l.values l.structs l.initial.graph l.k l.graph
