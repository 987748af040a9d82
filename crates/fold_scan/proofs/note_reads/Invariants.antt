use Rattle.mir.specs.Kind.{number_of_kind}
use Rattle.fold_scan.proofs.Graph.{Noting}
use Rattle.fold_scan.proofs.note_reads.Given as goal

abbrev pub invariant-loop-k : goal.invariant-loop-k
invariant-loop-k l = Noting l.facts l.slot (number_of_kind l.kind) l.d.0 l.initial.graph l.k l.graph
