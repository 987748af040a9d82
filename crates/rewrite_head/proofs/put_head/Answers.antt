use native.Mathlib.Omega.{arith}
use Rattle.rewrite_head.proofs.Front.{head_written}
use Rattle.rewrite_head.proofs.put_head.Goals as goal

pub returns : goal.returns
returns c =
    let a = c.args in record {
      upper_bound = omega (arith, c.requires.within, c.put_types.ensures.upper_bound, c.put_map-q.ensures.value, c.put_front-p.ensures.0);
      head_put = λ x ts e l n h. head_written x a.s.now a.at _ a.values.next a.values.many a.values.old.now a.values.fresh.now ts e l n c.count-all.ensures h a.out.now _ _ _ _ _ _
          c.put_front-p.ensures.0 c.put_front-p.ensures.1 c.put_map-q.ensures.value (c.put_map-q.ensures.of_recorded x.recorded ts h)
          (c.put_types.ensures.of_recorded x.recorded ts h);
    }
