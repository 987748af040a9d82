use Rattle.std.proofs.Common.{arith}
use Rattle.mir.specs.Kind.{number_of_kind}
use Rattle.fold_scan.proofs.Graph.{noting_start, noting_step}
use Rattle.fold_scan.proofs.note_reads.Goals as goal

pub loop-k-init : goal.loop-k-init
loop-k-init c =
    let a = c.args in
    noting_start a.facts.now a.slot (number_of_kind a.kind) a.d.0 a.graph.now c.read_count-k.result (omega arith) c.read_count-k.ensures

pub loop-k-preserved : goal.loop-k-preserved
loop-k-preserved c =
    let a = c.args in
    noting_step a.facts.now a.slot (number_of_kind a.kind) a.d.0 a.graph.now c.loop-k.k c.loop-k.graph c.loop-k.invariant c.loop-k-test.true
    c.read-w.result.0 c.read-w.ensures c.note_read.new.graph c.note_read.ensures
