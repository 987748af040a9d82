use mathlib.Core.Path.{refl, sym, ◌∙◌}
use Rattle.std.proofs.Common.{arith}
use Rattle.fold_family.proofs.Finding.{going_start, going_on, found_all, never_late}
use Rattle.fold_family.proofs.family.Goals as goal

pub loop-turns-init : goal.loop-turns-init
loop-turns-init c =
    let a = c.args in
    going_start a.copies.now a.shape a.v.0 a.marks.now a.members.now c.put.ensures c.put-2.ensures

pub returns-then-not-is_open : goal.returns-then-not-is_open
returns-then-not-is_open c =
    let a = c.args in
    let l = c.loop-turns in
    found_all a.copies.now a.shape a.v.0 a.marks.now a.members.now a.v refl l.q l.marks l.members l.turns l.invariant
    (sym c.is_open.ensures ∙ c.if-not-is_open.true)

pub loop-turns-preserved : goal.loop-turns-preserved
loop-turns-preserved c =
    let a = c.args in
    let l = c.loop-turns in
    going_on a.copies.now a.shape a.v.0 a.marks.now a.members.now l.q l.marks l.members l.turns l.invariant (omega (arith, c.loop-turns-test.true))
    (sym c.is_open.ensures ∙ c.if-not-is_open.false) c.turn-q.ensures

pub returns : goal.returns
returns c =
    let a = c.args in
    let l = c.loop-turns in
    never_late a.copies.now a.shape a.v.0 a.marks.now a.members.now a.v refl l.q l.marks l.members l.turns l.invariant
    (omega (arith, c.loop-turns-test.false)) _
