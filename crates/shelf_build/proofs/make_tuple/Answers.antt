use Rattle.mir.specs.Lookup.{recorded_type}
use Rattle.shelf_field.proofs.Lines.{and_both}
use Rattle.shelf_build.proofs.Built.{make_tuple_agrees}
use Rattle.shelf_build.proofs.make_tuple.Goals as goal

pub returns : goal.returns
returns c = λ τ seen i n g e.
    (make_tuple_agrees c.args.typing.code.bounds c.args.t.now seen τ c.behind-list.ensures.many (λ d xs u l h. let o = c.id_type-y.ensures _ _ τ d g u in
    and_both (c.has_shape-shaped.ensures _ τ (recorded_type τ d) g o)
    (c.parts_fit-all.ensures τ (recorded_type τ d) xs g o (rw (c.behind-list.ensures.bytes, c.behind-list.ensures.place) l) h))).each i n e
