use mathlib.Core.Option.{some}
use Rattle.fold_shapes.proofs.Rows.{shape_found, row_says}
use Rattle.fold_shapes.proofs.type_shape.Goals as goal

pub returns : goal.returns
returns c = shape_found c.args.code c.args.t c.row_shape.ensures (row_says c.args.code (some c.args.t) c.type_row.ensures)
