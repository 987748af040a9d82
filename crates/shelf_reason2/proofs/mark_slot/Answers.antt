use Rattle.shelf_marks.proofs.Backwards.{slot_marked}
use Rattle.shelf_reason2.proofs.mark_slot.Goals as goal

pub returns-in-Some : goal.returns-in-Some
returns-in-Some c =
    let a = c.args in
    slot_marked a.code a.slot a.marks.now c.in-Some.ensures c.instruction.ensures c.mark_dests.ensures
