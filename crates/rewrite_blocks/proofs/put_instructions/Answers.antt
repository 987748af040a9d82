use Prim.Native.Nat.{◌+◌}
use native.Mathlib.Omega.{arith}
use Rattle.std.proofs.Common.{rules, ◌≡◌, Err}
use Rattle.rewrite_step.specs.Stepping.{lent_as}
use Rattle.rewrite_perform.proofs.Lows.{low_mono}
use Rattle.rewrite_blocks.proofs.Walks.{walking_long, walking_fault, walking_again, walking_done}
use Rattle.rewrite_blocks.proofs.put_instructions.Goals as goal

pub step-requires : goal.step-requires
step-requires c = let l = c.loop-j in
    let r = c.requires in (
      low_mono (4801 + l.j) 8000 _ (omega (arith, c.loop-j-test.true, r.most)) (l.invariant.low 4801 r.low),
      (omega (arith, l.invariant.used, r.used, c.loop-j-test.true, r.most), walking_long _ _ _ _ _ _ _ l.invariant r),
    )

pub returns-in_err-v-clause-instructions_put : goal.returns-in_err-v-clause-instructions_put
returns-in_err-v-clause-instructions_put c = let a = c.args in
    let l = c.loop-j in
    let t = c.step in
    let l₀ = lent_as a.tracked.now a.dropped.now a.work.now a.out.now in
    let l₁ = lent_as l.tracked l.dropped l.work l.out in
    let l' = lent_as t.new.tracked t.new.dropped t.new.work t.new.out in
    let e : c.from_residual.result ≡ Err c.in_err-v.field-0.0 = search rules in
    rw e (walking_fault a.run a.at l₀ a.w l₁ l.v l.j l.invariant c.requires
    c.loop-j-test.true _ c.flag.ensures l' t.result t.ensures.steps_on _ c.in_err-v.was)

pub loop-j-preserved : goal.loop-j-preserved
loop-j-preserved c = let a = c.args in
    let l = c.loop-j in
    let t = c.step in
    let l₀ = lent_as a.tracked.now a.dropped.now a.work.now a.out.now in
    let l₁ = lent_as l.tracked l.dropped l.work l.out in
    let l' = lent_as t.new.tracked t.new.dropped t.new.work t.new.out in
    walking_again a.run a.at l₀ a.w l₁ l.v l.j l.invariant c.requires
    c.loop-j-test.true _ c.flag.ensures l' t.result t.ensures.steps_on _ c.in_ok-v.was t.ensures.by_index
    t.auto.tracked t.auto.dropped t.auto.work t.auto.out

pub returns : goal.returns
returns c = let a = c.args in
    let l = c.loop-j in record {
      by_index = λ n y. (
        low_mono (n + l.j) (n + a.at.count) _ (omega (arith, l.invariant.few)) (l.invariant.low n y),
        omega (arith, l.invariant.used, l.invariant.few),
      );
      instructions_put = walking_done a.run a.at
          (lent_as a.tracked.now a.dropped.now a.work.now a.out.now) a.w
          (lent_as l.tracked l.dropped l.work l.out) l.v l.j l.invariant c.loop-j-test.false;
    }
