use Rattle.shelf_marks.proofs.Bases.{basing_again, basing_done}
use Rattle.std.proofs.Common.{rules}
use Rattle.shelf_reason3.proofs.mark_bases.Goals as goal

pub loop-k-preserved : goal.loop-k-preserved
loop-k-preserved c = basing_again c.args.code c.loop-k.invariant c.loop-k-test.true c.mark_block.ensures (search rules)

pub returns : goal.returns
returns c = basing_done c.args.code c.loop-k.invariant c.loop-k-test.false
