use Rattle.rewrite_parts.proofs.Tables.{rep_share}
use Rattle.rewrite_parts.proofs.share.Goals as goal

pub returns : goal.returns
returns c = λ next s used S xs r e h. simp (c.set_row.ensures.placed, c.set_row.ensures.marked, c.number-first.ensures) (rep_share r _ _ e h)
