use Rattle.mir.proofs.Numbers.{shape_tag}
use Rattle.fold_shapes.proofs.Rows.{row_says}
use Rattle.fold_shapes.proofs.Values.{fill_again}
use Rattle.fold_shapes.proofs.value_shapes.Goals as goal

pub loop-v-preserved : goal.loop-v-preserved
loop-v-preserved c =
    let a = c.args in
    let l = c.loop-v in
    fill_again a.typing a.settings _ _ l.shapes l.eligible l.v _ _ _ _ _ _
    l.invariant c.loop-v-test.true c.recorded_type-t.ensures (row_says a.typing.code _ c.type_row-row.ensures) c.row_shape.ensures c.row_eligible.ensures (rw (shape_tag c.row_shape.result) at c.put.ensures)
    c.put-in-loop-v.ensures
