use Rattle.std.proofs.Common.{arith, ◌∙◌, sym}
use Rattle.rewrite_parts.proofs.Loops.{grown_row, row_number}
use Rattle.rewrite_parts.proofs.ByName.{rep_named, rep_missing}
use Rattle.rewrite_parts.proofs.track_named.Goals as goal

pub returns-then-not-put_named-clause-names_tracked : goal.returns-then-not-put_named-clause-names_tracked
returns-then-not-put_named-clause-names_tracked c =
    let a = c.args in
    let p = c.put_named.ensures in
    λ next S fs ts r q b v l w k m.
    rep_missing _ _ r (grown_row a.rows.now a.used a.names.count c.put.ensures p.grown)
    (sym c.if-not-put_named.true ∙ (p.names_put next fs ts v l w k r.short (omega (arith, q, c.put.auto.l))).told)

pub returns-clause-names_tracked : goal.returns-clause-names_tracked
returns-clause-names_tracked c =
    let a = c.args in
    let e = c.put.ensures in
    let p = c.put_named.ensures in
    λ next S fs ts r q b v l w k m.
    simp (c.set_row.ensures.placed, c.set_row.ensures.marked)
    (rep_named fs ts _ a.d r q b (grown_row a.rows.now a.used a.names.count e p.grown) k m
    (row_number a.rows.now a.used a.names.count (omega (arith, q)) e p.grown) c.if-not-put_named.false
    (p.names_put next fs ts v l w k r.short (omega (arith, q, c.put.auto.l))))
