use mathlib.Core.Option.{some}
use Rattle.shelf_field.proofs.Lines.{and_both}
use Rattle.shelf_memory.proofs.Placed.{load_agrees}
use Rattle.shelf_memory.proofs.load.Goals as goal

pub returns : goal.returns
returns c = λ τ seen i n g e.
    (load_agrees c.args.typing.code.bounds c.args.t.now seen τ c.step_count-steps.ensures c.projections_end-e.ensures.0 (λ d p y u v w. let o = c.type_at-y.ensures y w in
    and_both (c.id_has-dest.ensures _ _ τ d (some y) g u o) (c.place_fits-place.ensures τ p y g v o))).each i n e
