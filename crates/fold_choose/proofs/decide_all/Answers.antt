use Rattle.std.proofs.Common.{arith}
use Rattle.fold_choose.proofs.Flags.{deciding_on}
use Rattle.fold_choose.proofs.decide_all.Goals as goal

pub loop-j-preserved : goal.loop-j-preserved
loop-j-preserved c =
    let a = c.args in
    deciding_on a.settings a.view.shapes.now a.view.graph.now a.looked.now a.code a.slots
    a.choice.now c.loop-j.j c.loop-j.choice c.loop-j.invariant (omega arith) c.loop-j-test.true c.decide_one-yes.result c.flag-given.result c.flag-given.ensures
    c.decide_one-yes.ensures c.put.new.l c.put.ensures
