use Prim.Native.Nat.{◌+◌, ◌*◌}
use native.Mathlib.Omega.{arith}
use Rattle.std.proofs.Common.{rules, ◌≡◌, Err}
use Rattle.rewrite_step.specs.Stepping.{lent_as}
use Rattle.rewrite_perform.proofs.Lows.{low_mono}
use Rattle.rewrite_blocks.proofs.Rounds.{laid_fault, laid_again, laid_all}
use Rattle.rewrite_blocks.proofs.put_blocks.Goals as goal

pub put_block-requires : goal.put_block-requires
put_block-requires c =
    let l = c.loop-k in
    let q = c.requires in (
      low_mono (64 + 130 * l.k) 4800 _ (omega (arith, c.loop-k-test.true, q.1.0)) (l.invariant.low 64 q.0),
      (omega (arith, l.invariant.tracked_size, q.1.1.0), omega (arith, l.invariant.work_size, q.1.1.1)),
    )

pub returns-in_err-q-clause-all_put : goal.returns-in_err-q-clause-all_put
returns-in_err-q-clause-all_put c =
    let a = c.args in
    let l = c.loop-k in
    let t = c.put_block in
    let e : c.from_residual.result ≡ Err c.in_err-q.field-0.0 = search rules in
    λ τ ch ks co fo z en. rw e (laid_fault a.run
    (lent_as a.tracked.now a.dropped.now a.work.now a.out.now) a.p (lent_as l.tracked l.dropped l.work l.out) l.q
    l.k l.invariant c.loop-k-test.true (lent_as t.new.tracked t.new.dropped t.new.work t.new.out)
    t.result t.ensures.one_put τ ch ks co fo z en _ c.in_err-q.was)

pub loop-k-preserved : goal.loop-k-preserved
loop-k-preserved c =
    let a = c.args in
    let l = c.loop-k in
    let t = c.put_block in
    laid_again a.run (lent_as a.tracked.now a.dropped.now a.work.now a.out.now)
    a.p (lent_as l.tracked l.dropped l.work l.out) l.q l.k l.invariant c.loop-k-test.true
    (lent_as t.new.tracked t.new.dropped t.new.work t.new.out)
    t.result t.ensures.one_put _ c.in_ok-q.was t.ensures.by_index t.auto.tracked t.auto.dropped t.auto.work t.auto.out

pub returns : goal.returns
returns c =
    let a = c.args in
    let l = c.loop-k in
    let q = c.requires in record {
      put_low = low_mono (64 + 130 * l.k) 4300 _ (omega (arith, l.invariant.few, q.1.0)) (l.invariant.low 64 q.0);
      all_put = laid_all a.run (lent_as a.tracked.now a.dropped.now a.work.now a.out.now) a.p
          (lent_as l.tracked l.dropped l.work l.out) l.q l.k l.invariant c.loop-k-test.false;
    }
