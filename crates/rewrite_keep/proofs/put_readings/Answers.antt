use Rattle.std.proofs.Common.{rules, refl, ◌≡◌}
use mathlib.Core.Path.{◌∙◌}
use mathlib.Core.List.{[]}
use Rattle.std.specs.Prelude.{Err}
use Rattle.rewrite_descent.proofs.Going.{spacious_still}
use Rattle.rewrite_descent.proofs.Top.{clear_path}
use Rattle.rewrite_keep.proofs.Rebuilding.{rebuilding_start, rebuilding_again, rebuilding_fault, rebuilding_done}
use Rattle.rewrite_keep.proofs.put_readings.Goals as goal

pub loop-j-init : goal.loop-j-init
loop-j-init c =
    let a = c.args in
    rebuilding_start a.site a.reader c.value_count-j-end.result a.out.now a.work.now a.p _ _ c.value_count-j-end.ensures c.requires.1 c.requires.0 (clear_path _ _ c.min-values.ensures)

pub put_deep-requires : goal.put_deep-requires
put_deep-requires c = let i = c.loop-j.invariant in spacious_still _ _ _ i.room i.deeper

pub returns-in_err-q-clause-work_unchanged : goal.returns-in_err-q-clause-work_unchanged
returns-in_err-q-clause-work_unchanged c = c.in_err-q.ensures.work_unchanged ∙ c.loop-j.invariant.rows

pub returns-in_err-q-clause-readings_put : goal.returns-in_err-q-clause-readings_put
returns-in_err-q-clause-readings_put c =
    let z : c.from_residual.result ≡ Err c.in_err-q.field-0.0 = search rules in
    rw z (rebuilding_fault _ _ _ _ _ _ _ _ _ _ _ _ c.loop-j.invariant c.loop-j-test.true _ c.value.ensures _ c.own_wanted-wants.ensures
    c.put_deep.new.out c.put_deep.new.work _ c.in_err-q.ensures.deep_put _ [] refl)

pub loop-j-preserved : goal.loop-j-preserved
loop-j-preserved c =
    let q = c.in_ok-q.ensures in
    rebuilding_again _ _ _ _ _ _ _ _ _ _ _ _ c.loop-j.invariant c.loop-j-test.true _ c.value.ensures _ c.own_wanted-wants.ensures
    c.put_deep.new.out c.put_deep.new.work _ q.deep_put _ _ _ _ refl q.put_deeper c.put_deep.auto.out c.put_deep.auto.work q.work_unchanged q.path_kept
    c.number_taken-number.ensures c.put.ensures

pub returns-clause-put_deeper : goal.returns-clause-put_deeper
returns-clause-put_deeper c = c.loop-j.invariant.deeper

pub returns-clause-work_unchanged : goal.returns-clause-work_unchanged
returns-clause-work_unchanged c = c.loop-j.invariant.rows

pub returns-clause-readings_put : goal.returns-clause-readings_put
returns-clause-readings_put c = rebuilding_done _ _ _ _ _ _ _ _ _ _ _ _ c.loop-j.invariant c.loop-j-test.false
