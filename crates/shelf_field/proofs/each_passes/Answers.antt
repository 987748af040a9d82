use native.Mathlib.Omega.{arith}
use Rattle.shelf_field.specs.Passes.{Among}
use Rattle.shelf_field.proofs.Passing.{fails_now, passes_now, passes_all}
use Rattle.shelf_field.proofs.each_passes.Goals as goal

pub returns-then-not-test : goal.returns-then-not-test
returns-then-not-test g c = c.loop-i.invariant.1.1 _ (fails_now c.args.list.count c.loop-i.i c.loop-i.here c.loop-i-test.true (rw c.if-not-test.true at c.test.ensures))

pub loop-i-preserved : goal.loop-i-preserved
loop-i-preserved g c =
    let l = c.args.list in
    let m : Among l.at c.loop-i.here = omega (arith, c.loop-i.invariant.0, c.loop-i-test.true) in (
      omega (arith, c.loop-i.invariant.0, c.requires.short c.loop-i.here c.end-here.result m c.end-here.ensures),
      (
        omega (arith, c.loop-i-test.true),
        λ r p. c.loop-i.invariant.1.1 r (passes_now l.count c.loop-i.i c.loop-i.here c.loop-i-test.true (rw c.if-not-test.false at c.test.ensures) c.end-here.ensures p),
      ),
    )

pub returns : goal.returns
returns g c = c.loop-i.invariant.1.1 _ (passes_all c.args.list.count c.loop-i.i c.loop-i.here c.loop-i-test.false)
