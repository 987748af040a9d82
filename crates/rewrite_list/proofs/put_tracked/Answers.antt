use Rattle.rewrite_list.proofs.Building.{rep_held}
use Rattle.rewrite_list.proofs.put_tracked.Goals as goal

pub returns-clause-tracked_put : goal.returns-clause-tracked_put
returns-clause-tracked_put c = λ τ S tracked xs e i l.
    let p = c.row-parts.ensures.parts_stand _ _ _ _ S xs (rep_held c.rows.ensures e.rep) i in
    c.put_rebuild.ensures.of_table _ τ e.ground.bytes e.ground.known.rows l xs p.0 p.1 c.row-parts.ensures.upper_bound
