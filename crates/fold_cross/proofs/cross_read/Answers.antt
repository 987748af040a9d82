use Rattle.fold_cross.proofs.Crossing.{crossing_again, crossing_done}
use Rattle.fold_cross.proofs.cross_read.Goals as goal

pub loop-k-preserved : goal.loop-k-preserved
loop-k-preserved c =
    let a = c.args in
    let l = c.loop-k in
    crossing_again a.known _ l.marks _ l.k l.invariant
    c.loop-k-test.true (λ σ τ ks r h. c.cross_block.ensures τ ks h σ r) c.cross_block.auto.marks

pub returns : goal.returns
returns c =
    let a = c.args in
    let l = c.loop-k in
    λ τ ks σ. crossing_done a.known _ l.marks l.k l.invariant c.loop-k-test.false σ τ ks
