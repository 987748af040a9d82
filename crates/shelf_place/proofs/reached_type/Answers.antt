use Rattle.mir.specs.Lookup.{row_of, recorded_type}
use Rattle.shelf_place.proofs.Places.{no_aggregate, reached_pointer, reached_aggregate}
use Rattle.shelf.specs.Agrees.{pointee}
use Rattle.shelf_place.proofs.reached_type.Goals as goal

pub returns-then-eq : goal.returns-then-eq
returns-then-eq c = λ recorded τ p g i l m.
    let o = recorded_type τ p.base in
    reached_pointer τ p (no_aggregate c.shape_of.result (row_of τ o) c.eq.ensures (c.shape_of.ensures τ o g.known.rows g.rows i)) c.if-eq.true
    (c.pointed_type.ensures recorded τ (pointee (row_of τ o)) p.projections g (c.pointee-to.ensures τ o g.known.rows g.rows i) l m)

pub returns : goal.returns
returns c = λ recorded τ p g i l m.
    let o = recorded_type τ p.base in
    reached_aggregate τ p (no_aggregate c.shape_of.result (row_of τ o) c.eq.ensures (c.shape_of.ensures τ o g.known.rows g.rows i)) c.if-eq.false
    (c.end_type.ensures recorded τ o p.projections g i l m)
