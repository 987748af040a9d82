use Rattle.shelf_marks.proofs.Storing.{insert_parts}
use Rattle.shelf_taken.proofs.parts_clear.Goals as goal

pub returns-in-InsertField : goal.returns-in-InsertField
returns-in-InsertField c =
    let a = c.args in
    insert_parts a.code a.slot a.marks.now c.in-Some.kind c.operand-in-InsertField.result c.in-InsertField.is c.in-Some.ensures c.instruction-t.ensures
    c.operand-in-InsertField.ensures c.value_clear-in-InsertField.ensures
