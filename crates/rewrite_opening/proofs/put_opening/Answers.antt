use Rattle.rewrite_opening.proofs.Laws.{head_within}
use Rattle.rewrite_opening.proofs.put_opening.Goals as goal

pub put_head-head-requires-clause-within : goal.put_head-head-requires-clause-within
put_head-head-requires-clause-within c = head_within c.requires _ c.place-at.ensures

pub put_head-requires-clause-within : goal.put_head-requires-clause-within
put_head-requires-clause-within c = head_within c.requires _ c.place-at.ensures
