use mathlib.Core.Option.{some}
use Rattle.shelf_field.proofs.Lines.{and_both}
use Rattle.shelf_memory.proofs.Placed.{store_agrees}
use Rattle.shelf_memory.proofs.store.Goals as goal

pub returns : goal.returns
returns c = λ τ seen i n g e.
    (store_agrees c.args.typing.code.bounds c.args.t.now seen τ c.operand_first-e.ensures.0 c.value_end.ensures.0 (λ p x y u v w. let o = c.type_at-y.ensures y w in
    and_both (c.value_fits-value.ensures τ x (some y) g v o) (c.place_fits-place.ensures τ p y g u o))).each i n e
