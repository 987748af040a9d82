use mathlib.Core.Path.{◌∙◌}
use Rattle.shelf_rows.proofs.Told.{row_tells}
use Rattle.shelf_rows.proofs.has_parts.Goals as goal

pub returns : goal.returns
returns c = λ τ o a l e. c.row_counts.ensures ∙ (row_tells c.args.code c.args.number c.type_row.ensures τ o a l e).parts c.args.n
