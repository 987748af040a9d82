use mathlib.Core.Option.{some}
use Rattle.shelf_list.proofs.fn.arguments_fit.each_passes+arg3.Goals as goal

pub returns : goal.returns
returns c = λ τ x y g h u. c.value_fits.ensures τ x (some y) g h (c.type_at-number.ensures y u)
