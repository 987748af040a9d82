use Rattle.rewrite_head.proofs.Front.{front_written}
use Rattle.rewrite_head.proofs.put_front.Goals as goal

pub returns : goal.returns
returns c =
    front_written _ _ _ _ _ _ _ _ c.byte_at-count.ensures c.requires.within _ _ c.copy-p.ensures.0 c.copy-p.ensures.1 c.put_u16.ensures
    c.copy.ensures
