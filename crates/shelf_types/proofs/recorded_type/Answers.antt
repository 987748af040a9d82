use Rattle.std.proofs.Common.{◌∙◌}
use Rattle.bytes_index.proofs.Laws.{from_number}
use Rattle.shelf_types.proofs.Numbers.{recorded_at}
use Rattle.shelf_types.proofs.recorded_type.Goals as goal

pub returns : goal.returns
returns c = λ τ a l h. c.recorded_type.ensures ∙ from_number _ (recorded_at c.args.recorded.now τ c.args.v a l h)
