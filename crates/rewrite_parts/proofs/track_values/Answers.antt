use Rattle.std.proofs.Common.{arith}
use Rattle.rewrite_parts.proofs.Tables.{rep_track}
use Rattle.rewrite_parts.proofs.Loops.{grown_row, row_number}
use Rattle.rewrite_parts.proofs.track_values.Goals as goal

pub returns-clause-values_tracked : goal.returns-clause-values_tracked
returns-clause-values_tracked c =
    let a = c.args in
    let e = c.put.ensures in
    let p = c.put_places.ensures in
    λ next S xs r q b v l m.
    simp (c.set_row.ensures.placed, c.set_row.ensures.marked)
    (rep_track r xs _ a.d q b (grown_row a.rows.now a.used a.values.count e p.grown) l m (row_number a.rows.now a.used a.values.count (omega (arith, q)) e p.grown)
    (p.places_put next xs v l r.short (omega (arith, q, c.put.auto.l))))
