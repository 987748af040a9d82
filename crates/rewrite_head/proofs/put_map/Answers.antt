use Rattle.rewrite_head.proofs.Written.{map_again}
use Rattle.rewrite_head.proofs.put_map.Goals as goal

pub loop-k-preserved : goal.loop-k-preserved
loop-k-preserved c = map_again _ _ _ _ _ _ _ _ _ c.loop-k.invariant _ _ c.loop-k-test.true c.put_u8.ensures c.map_byte-byte.ensures
