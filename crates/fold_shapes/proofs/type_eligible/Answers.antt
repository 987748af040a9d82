use mathlib.Core.Option.{some}
use Rattle.fold_shapes.proofs.Rows.{eligible_found, row_says}
use Rattle.fold_shapes.proofs.type_eligible.Goals as goal

pub returns : goal.returns
returns c = eligible_found c.args.code c.args.t c.args.settings c.row_eligible.ensures (row_says c.args.code (some c.args.t) c.type_row.ensures)
