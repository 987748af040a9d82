use mathlib.Core.Option.{some}
use Rattle.mir.specs.Lookup.{row_of, recorded_type}
use Rattle.mir.specs.Parts.{part_type}
use Rattle.shelf_field.proofs.Lines.{and_both}
use Rattle.shelf_build.proofs.Built.{make_array_agrees}
use Rattle.shelf_build.proofs.make_array.Goals as goal

pub returns : goal.returns
returns c = λ k τ seen i n g e.
    (make_array_agrees c.args.typing.code.bounds c.args.t.now seen τ k c.behind-list.ensures.many (rw c.behind-list.ensures.place at c.values_end-e.ensures.0) (λ d xs y u l h v. let o = c.id_type-y.ensures _ _ τ d g u in
    let p = part_type (row_of τ (recorded_type τ d)) 0 in
    and_both (c.has_shape-shaped.ensures _ τ (recorded_type τ d) g o) (and_both
    (c.same_type-same.ensures p (some y) (c.part_type.ensures τ (recorded_type τ d) g.known.rows g.rows o) (c.type_at-part.ensures y v))
    (c.parts_fit-all.ensures τ (recorded_type τ d) xs g o (rw (c.behind-list.ensures.bytes, c.behind-list.ensures.place) l) h)))).each i n e
