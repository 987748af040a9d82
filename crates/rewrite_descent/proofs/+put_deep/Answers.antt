use Rattle.std.proofs.Common.{arith, rules, refl, ◌≡◌}
use mathlib.Core.Path.{ap, ◌∙◌}
use mathlib.Core.Bool.{false}
use lib.ListN.{set}
use Rattle.std.specs.Prelude.{Err}
use Rattle.rewrite_descent.proofs.Going.{going_start, going_less, going_again, going_fault, going_whole, nothing_put, not_begun, spacious_still, unmark, if_kept}
use Rattle.rewrite_descent.proofs.+put_deep.Goals as goal

pub returns-in_default-clause-deep_put : goal.returns-in_default-clause-deep_put
returns-in_default-clause-deep_put t c =
    let a = c.args in nothing_put a.site a.path.now a.wants a.out.now a.work.now a.p c.in_default.is

pub returns-in_err-many-clause-deep_put : goal.returns-in_err-many-clause-deep_put
returns-in_err-many-clause-deep_put t c =
    let a = c.args in
    let z : c.from_residual.result ≡ Err c.in_err-many.field-0.0 = search rules in
    rw z (not_begun a.site a.path.now a.wants c.in-Some.build a.out.now a.work.now a.out.now a.work.now a.p _ c.in-Some.is c.in_err-many.ensures.begins)

pub loop-k-init : goal.loop-k-init
loop-k-init t c =
    let a = c.args in
    let b = c.in_ok-many.ensures in
    going_start a.site c.in-Some.build _ a.path.now a.out.now a.work.now a.p _ _ b.few refl c.requires b.clear c.put.ensures b.begins

pub put_deep-requires : goal.put_deep-requires
put_deep-requires t c =
    let i = c.loop-k.invariant in
    (omega (arith, c.decreases, going_less _ _ _ _ _ _ _ _ _ _ _ _ _ i), spacious_still _ _ _ i.room i.deeper)

pub returns-in_err-q-clause-deep_put : goal.returns-in_err-q-clause-deep_put
returns-in_err-q-clause-deep_put t c =
    let z : c.from_residual-in_err-q.result ≡ Err c.in_err-q.field-0.0 = search rules in
    rw z (going_fault _ _ _ _ _ _ _ _ _ _ _ _ _ c.loop-k.invariant c.loop-k-test.true _ c.part_place-place.ensures _ c.wanted_at-part.ensures
    c.put_deep.new.out c.put_deep.new.work _ c.in_err-q.ensures.deep_put c.args.wants _ c.in-Some.is refl)

pub loop-k-preserved : goal.loop-k-preserved
loop-k-preserved t c =
    let q = c.in_ok-q.ensures in
    going_again _ _ _ _ _ _ _ _ _ _ _ _ _ c.loop-k.invariant c.loop-k-test.true _ c.part_place-place.ensures _ c.wanted_at-part.ensures
    c.put_deep.new.out c.put_deep.new.work _ q.deep_put _ _ _ _ refl q.put_deeper c.put_deep.auto.out c.put_deep.auto.work q.work_unchanged q.path_kept
    c.number_taken-number.ensures c.put-in-loop-k.ensures

pub returns-clause-path_kept : goal.returns-clause-path_kept
returns-clause-path_kept t c =
    let i = c.loop-k.invariant in
    if_kept _ (c.put-2.ensures ∙ ap (λ m. set m c.in-Some.build.value.0 false) i.marked ∙ unmark _ _ i.clear)

pub returns-clause-deep_put : goal.returns-clause-deep_put
returns-clause-deep_put t c =
    going_whole _ _ _ _ _ _ _ _ _ _ _ _ _ c.loop-k.invariant c.args.wants c.put_whole.new.out c.put_whole.new.work _ c.loop-k-test.false c.in-Some.is c.put_whole.ensures.whole_put
