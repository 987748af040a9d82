use Rattle.fold_cross.proofs.Crossing.{building_again, building_done}
use Rattle.fold_cross.proofs.cross_builds.Goals as goal

pub loop-j-preserved : goal.loop-j-preserved
loop-j-preserved c =
    let a = c.args in
    let l = c.loop-j in
    building_again a.known a.copies.now a.k.0 c.block_slots-slots.result _ c.block_number-own.ensures c.block_slots-slots.ensures _ _
    l.family l.marks l.members l.j l.invariant c.loop-j-test.true
    c.eligible_build-d.result c.eligible_build-d.ensures _ _ _ c.find_family-n.ensures
    c.find_family-n.auto.members _ _ c.unite_abroad.ensures c.unite_abroad.auto.marks c.unmark.ensures

pub returns : goal.returns
returns c =
    let a = c.args in
    let l = c.loop-j in
    λ τ ks p cp e σ r lc. building_done a.known a.copies.now a.k.0 c.block_slots-slots.result _
    c.block_number-own.ensures c.block_slots-slots.ensures _ _
    l.family l.marks l.members l.j l.invariant c.loop-j-test.false σ τ ks
    (record { ready = r; inside = p; rows = cp; clear = e; each = lc })
