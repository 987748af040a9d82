use native.Mathlib.Omega.{arith}
use Rattle.rewrite_head.proofs.Written.{types_again, types_done}
use Rattle.rewrite_head.proofs.put_types.Goals as goal

pub loop-v-preserved : goal.loop-v-preserved
loop-v-preserved c = types_again _ _ _ _ _ _ _ _ _ c.loop-v.invariant _ _ (omega (arith, c.loop-v-test.true, c.count-v-end.ensures)) c.put_type-p.auto.out
    c.put_type-p.ensures.upper_bound c.put_type-p.ensures.of_recorded

pub returns : goal.returns
returns c = record {
  upper_bound = omega (arith, c.loop-v.invariant.bound, c.loop-v.invariant.under, c.requires);
  of_recorded = types_done _ _ _ _ _ _ _ _ _ c.loop-v.invariant (omega (arith, c.loop-v-test.false, c.count-v-end.ensures));
}
