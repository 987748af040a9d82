use mathlib.Core.Path.{sym, ap, ◌∙◌}
use Rattle.fold_climb.specs.Scanned.{sight_of, edges_down}
use Rattle.fold_climb.proofs.Depth.{climb_met, climb_barred}
use Rattle.fold_climb.proofs.Turn.{turn_start, turn_done, turn_other, turn_array, turn_stop, turn_on}
use Rattle.fold_climb.proofs.+climb.Goals as goal
use Rattle.fold_climb.proofs.+climb.Goals.{then-at-via-then-at, then-at-via-else-at+then-not-allows}

pub returns-then-at : goal.returns-then-at
returns-then-at t c =
    elim c.then-at.branch [
      | then-at-via-then-at w ↦ sym (climb_met _ c.args.v.0 c.args.visited (sym c.at.ensures ∙ w.if-at.true))
      | then-at-via-else-at+then-not-allows w ↦ sym (climb_barred _ c.args.v.0 c.args.visited (sym w.allows.ensures ∙ w.if-not-allows.true))
    ]

pub loop-k-init : goal.loop-k-init
loop-k-init t c =
    let a = c.args in
    turn_start (sight_of a.view.shapes.now a.view.graph.now) a.v.0 a.view.graph.now a.visited c.edge_count-k.result c.put.new.l
    (sym c.at.ensures ∙ c.if-at.false) (sym c.allows.ensures ∙ c.if-not-allows.false) c.put.ensures (ap (λ n. edges_down a.view.graph.now n) (sym c.edge_count-k.ensures))

pub returns-then-array : goal.returns-then-array
returns-then-array t c =
    turn_array _ _ _ _ _ _ c.loop-k.invariant c.loop-k-test.true
    (rw c.child.ensures at (sym c.if-eq.ensures)) (sym c.if-array.ensures)

pub returns-in_err-met : goal.returns-in_err-met
returns-in_err-met t c =
    rw c.from_residual.ensures (turn_stop _ _ _ _ _ _ c.loop-k.invariant c.loop-k-test.true
    (rw c.child.ensures at (sym c.if-eq.ensures)) (sym c.if-array.ensures) c.parent.result.0
    c.parent.ensures c.in_err-met.ensures)

pub loop-k-preserved-then-eq : goal.loop-k-preserved-then-eq
loop-k-preserved-then-eq t c =
    turn_on _ _ _ _ _ _ c.loop-k.invariant c.loop-k-test.true
    (rw c.child.ensures at (sym c.if-eq.ensures)) (sym c.if-array.ensures) c.parent.result.0
    c.parent.ensures _ c.in_ok-met.ensures

pub loop-k-preserved : goal.loop-k-preserved
loop-k-preserved t c =
    turn_other _ _ _ _ _ _ c.loop-k.invariant c.loop-k-test.true
    (rw c.child.ensures at (sym c.if-eq.ensures))

pub returns : goal.returns
returns t c = turn_done _ _ _ _ _ _ c.loop-k.invariant c.loop-k-test.false
