use Rattle.std.proofs.Common.{arith, rules, ◌≡◌, ◌+◌}
use mathlib.Core.Path.{ap, ◌∙◌}
use lib.Seq.{take-set-le}
use lib.ListN.{take}
use Rattle.std.specs.Prelude.{Err}
use Rattle.rewrite_descent.proofs.Whole.{type_below, rep_of, whole_fault, whole_made, number_fits, line_fits, one_deeper}
use Rattle.rewrite_descent.proofs.put_whole.Goals as goal

pub returns-in_err-number_and_line-clause-whole_put : goal.returns-in_err-number_and_line-clause-whole_put
returns-in_err-number_and_line-clause-whole_put c = λ h τ S tracked xs e o.
    let a = c.args in
    let z : c.from_residual.result ≡ Err c.in_err-number_and_line.field-0.0 = search rules in
    rw z (whole_fault τ S a.build a.nums.now xs _ o _ a.work.now a.p _ a.work.now _ c.in_err-number_and_line.ensures)

pub overflow_cast-number-2 : goal.overflow_cast-number-2
overflow_cast-number-2 c = omega (arith, number_fits _ _ c.in_ok-number_and_line.ensures)

pub overflow_add-result : goal.overflow_add-result
overflow_add-result c = omega (arith, line_fits _ c.args.p.lines c.in_ok-number_and_line.ensures)

pub returns-clause-put_deeper : goal.returns-clause-put_deeper
returns-clause-put_deeper c = one_deeper _ c.args.p _ (number_fits _ _ c.in_ok-number_and_line.ensures) c.put_numbered-to.ensures.upper_bound

pub returns-clause-work_unchanged : goal.returns-clause-work_unchanged
returns-clause-work_unchanged c =
    let a = c.args in
    ap (take 2432) c.put.ensures ∙ take-set-le 2432 a.work.now (2432 + a.p.fresh) _ (omega arith)

pub returns-clause-whole_put : goal.returns-clause-whole_put
returns-clause-whole_put c = λ h τ S tracked xs e o.
    let a = c.args in
    let r = c.row-places.ensures.parts_stand _ _ _ _ S xs (rep_of c.rows.ensures e.rep) o.parts in
    whole_made τ S a.build a.nums.now xs _ o _ a.work.now a.p _ _ _ _ (omega arith) c.in_ok-number_and_line.ensures
    (c.put_numbered-to.ensures.of_table _ τ e.ground.bytes e.ground.known.rows (type_below a.code τ S a.build xs e.ground o) xs r.0 r.1 c.row-places.ensures.upper_bound)
    c.put.ensures
