use Rattle.std.proofs.Common.{arith}
use Rattle.fold_choose.proofs.EachBlock.{choosing_on}
use Rattle.fold_choose.proofs.choose.Goals as goal

pub loop-k-preserved : goal.loop-k-preserved
loop-k-preserved c =
    let a = c.args in
    choosing_on a.settings a.values a.code a.choice.now c.loop-k.k
    c.loop-k.choice c.loop-k.graph c.loop-k.invariant c.loop-k-test.true c.choose_one.new.choice (omega arith)
    c.choose_one.new.graph (omega arith) c.choose_one.ensures
