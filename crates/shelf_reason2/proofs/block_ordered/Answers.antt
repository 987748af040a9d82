use mathlib.Core.Path.{refl, ap}
use mathlib.Core.Bool.{not}
use Rattle.shelf_marks.proofs.Backwards.{backward_start, backward_again, backward_stop, backward_done}
use Rattle.std.proofs.Common.{rules}
use Rattle.shelf_reason2.proofs.block_ordered.Goals as goal

pub loop-slot-init : goal.loop-slot-init
loop-slot-init c = let a = c.args in backward_start a.code a.k.0 c.behind_phis-slots.result c.behind_phis-slots.ensures _ c.end-slot.ensures refl refl

pub returns-then-not-reads_clear : goal.returns-then-not-reads_clear
returns-then-not-reads_clear c =
    let a = c.args in
    backward_stop a.code a.k.0 c.behind_phis-slots.result c.behind_phis-slots.ensures c.loop-slot.invariant c.loop-slot-test.true
    c.mark_slot.ensures c.reads_clear.ensures (ap not c.if-not-reads_clear.true)

pub loop-slot-preserved : goal.loop-slot-preserved
loop-slot-preserved c =
    let a = c.args in
    backward_again a.code a.k.0 c.behind_phis-slots.result c.behind_phis-slots.ensures c.loop-slot.invariant c.loop-slot-test.true
    c.mark_slot.ensures c.reads_clear.ensures (ap not c.if-not-reads_clear.false) (search rules)

pub returns : goal.returns
returns c =
    let a = c.args in
    backward_done a.code a.k.0 c.behind_phis-slots.result c.behind_phis-slots.ensures c.loop-slot.invariant c.loop-slot-test.false
