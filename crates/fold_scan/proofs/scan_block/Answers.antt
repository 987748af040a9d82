use Rattle.std.proofs.Common.{arith}
use mathlib.Core.Path.{refl}
use Rattle.fold_scan.proofs.Blocks.{scan_start, scan_step, scan_done}
use Rattle.fold_scan.proofs.scan_block.Goals as goal

pub loop-k-init : goal.loop-k-init
loop-k-init c =
    let a = c.args in
    scan_start a.code a.slots a.values a.structs.now
    c.clear.new.graph c.clear.new.graph refl c.clear.ensures

pub loop-k-preserved : goal.loop-k-preserved
loop-k-preserved c =
    let a = c.args in
    scan_step a.code a.slots a.values a.structs.now
    c.clear.new.graph c.loop-k.k c.loop-k.graph c.loop-k.invariant c.loop-k-test.true c.flag-pass.result c.flag-pass.ensures
    c.scan_one.new.graph (omega arith) c.scan_one.ensures

pub returns : goal.returns
returns c =
    let a = c.args in
    scan_done a.code a.slots a.values a.structs.now
    c.clear.new.graph c.loop-k.k c.loop-k.graph c.loop-k.invariant c.loop-k-test.false a.graph.now (omega arith)
