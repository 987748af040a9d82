use Rattle.std.proofs.Common.{refl, arith}
use Rattle.std.proofs.Math.Option.{none, some}
use Rattle.rewrite_chains.proofs.Walks.{here_walks, looked}
use Rattle.rewrite_chains.proofs.Ends.{place_read, last_long, last_there, ends_empty, ends_stuck, ends_there}
use Rattle.rewrite_chains.proofs.last_step.Goals as goal

pub returns-then-n-eq0 : goal.returns-then-n-eq0
returns-then-n-eq0 c =
    λ τ S used i p o w.
    ends_empty τ S p (place_read o (omega arith) (omega arith) c.instruction-t.ensures c.own_fields.ensures w refl refl c.step_count-n.ensures)
    c.if-n-eq0.true

pub returns-in_err-holder : goal.returns-in_err-holder
returns-in_err-holder c =
    λ τ S used i p o w.
    let R = place_read o (omega arith) (omega arith) c.instruction-t.ensures c.own_fields.ensures w refl c.read-base.ensures c.step_count-n.ensures in
    rw c.from_residual.ensures
    (ends_stuck τ S p R c.if-n-eq0.false
    (c.in_err-holder.ensures τ S p.projections (here_walks o) R.steps R.below (last_long p.projections R.long c.if-n-eq0.false)))

pub returns-in_err-step : goal.returns-in_err-step
returns-in_err-step c =
    λ τ S used i p o w.
    let R = place_read o (omega arith) (omega arith) c.instruction-t.ensures c.own_fields.ensures w refl c.read-base.ensures c.step_count-n.ensures in
    last_there τ S p R c.if-n-eq0.false (looked _ _ _ none c.in_err-step.ensures p.projections R.steps)

pub returns : goal.returns
returns c =
    λ τ S used i p o w.
    let R = place_read o (omega arith) (omega arith) c.instruction-t.ensures c.own_fields.ensures w refl c.read-base.ensures c.step_count-n.ensures in
    ends_there τ S p R c.if-n-eq0.false
    (c.in_ok-holder.ensures τ S p.projections (here_walks o) R.steps R.below (last_long p.projections R.long c.if-n-eq0.false))
    (looked _ _ _ (some c.in_ok-step.step) c.in_ok-step.ensures p.projections R.steps)
