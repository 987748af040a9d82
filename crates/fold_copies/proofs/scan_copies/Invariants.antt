use Rattle.fold_copies.proofs.Scan.{Scanning}
use Rattle.fold_copies.proofs.scan_copies.Given as goal

abbrev pub invariant-loop-k : goal.invariant-loop-k
invariant-loop-k l = Scanning l.code l.first l.count l.initial.copies l.initial.dynamic l.copies l.dynamic l.n l.k
