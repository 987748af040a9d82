use native.Mathlib.Omega.{arith}
use mathlib.Core.Path.{ap, ◌∙◌, sym}
use lib.Seq.{take-set-le}
use lib.ListN.{take}
use Rattle.std.proofs.Common.{rules, ◌≡◌}
use Rattle.std.specs.Prelude.{Err}
use Rattle.rewrite_list.proofs.Joining.{one_stays}
use Rattle.rewrite.proofs.Within.{full_none}
use Rattle.rewrite_list.proofs.Building.{few_one, none_put, wanted_clash, wanted_numberless, wanted_lineless, wanted_made}
use Rattle.rewrite_list.proofs.Copying.{moved}
use Prim.Native.Nat.{◌+◌}
use Rattle.rewrite_list.proofs.put_wanted.Goals as goal

pub returns-in_default-clause-wanted_put : goal.returns-in_default-clause-wanted_put
returns-in_default-clause-wanted_put c =
    let a = c.args in λ tracked τ S x o k h y. none_put _ x _ a.work.now a.p (one_stays τ S _ x o k c.in_default.is)

pub returns-in_err-to-clause-wanted_put : goal.returns-in_err-to-clause-wanted_put
returns-in_err-to-clause-wanted_put c =
    let a = c.args in
    let z : c.from_residual.result ≡ Err c.in_err-to.field-0.0 = search rules in
    rw z (wanted_clash _ a.work.now _ _ _ a.p c.fresh_value-d.result a.wants c.in-Some.is _ c.in_err-to.ensures.tracked_put)

pub returns-in_err-one_more-clause-wanted_put : goal.returns-in_err-one_more-clause-wanted_put
returns-in_err-one_more-clause-wanted_put c =
    let a = c.args in
    let z : c.from_residual-in_err-one_more.result ≡ Err c.in_err-one_more.field-0.0 = search rules in
    rw z (wanted_numberless _ a.work.now _ _ _ a.p _ a.wants c.in-Some.is _ c.fresh_value-d.ensures c.in_ok-to.ensures.tracked_put _
    c.in_err-one_more.ensures)

pub returns-in_err-one_line-clause-wanted_put : goal.returns-in_err-one_line-clause-wanted_put
returns-in_err-one_line-clause-wanted_put c =
    let a = c.args in
    let z : c.from_residual-in_err-one_line.result ≡ Err c.in_err-one_line.field-0.0 = search rules in
    rw z (wanted_lineless _ a.work.now _ _ _ a.p _ a.wants c.in-Some.is _ c.fresh_value-d.ensures c.in_ok-to.ensures.tracked_put _
    c.in_ok-one_more.ensures c.in_err-one_line.ensures)

pub returns-clause-work_unchanged : goal.returns-clause-work_unchanged
returns-clause-work_unchanged c =
    let a = c.args in
    ap (take 2432) c.put.ensures ∙ take-set-le 2432 a.work.now (2432 + a.p.fresh) _ (omega arith)

pub returns-clause-wanted_put : goal.returns-clause-wanted_put
returns-clause-wanted_put c =
    let a = c.args in
    wanted_made _ a.work.now _ _ _ a.p _ a.wants c.in-Some.is _ c.fresh_value-d.ensures c.in_ok-to.ensures.tracked_put _ _
    c.in_ok-one_more.ensures c.in_ok-one_line.ensures c.put.ensures (moved a.p.to _)

pub returns-clause-put_few : goal.returns-clause-put_few
returns-clause-put_few c =
    few_one c.args.p _ _ c.in_ok-to.ensures.to_bound (omega (arith, full_none _ (sym c.in_ok-one_more.ensures)))
