use native.Mathlib.Omega.{arith}
use Rattle.shelf_marks.proofs.Bases.{based_again, based_done}
use Rattle.std.proofs.Common.{rules}
use Rattle.shelf_reason3.proofs.mark_block.Goals as goal

pub loop-slot-preserved : goal.loop-slot-preserved
loop-slot-preserved c =
    let a = c.args in
    based_again a.code a.k.0 c.block_slots-slots.result c.block_slots-slots.ensures c.end-slot-end.ensures c.loop-slot.invariant (omega arith) c.loop-slot-test.true c.mark_base.ensures (search rules)

pub returns : goal.returns
returns c =
    let a = c.args in
    based_done a.code a.k.0 c.block_slots-slots.result c.block_slots-slots.ensures c.end-slot-end.ensures c.loop-slot.invariant c.loop-slot-test.false
