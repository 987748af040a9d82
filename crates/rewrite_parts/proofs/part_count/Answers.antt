use Rattle.std.proofs.Common.{sym}
use Rattle.rewrite_parts.proofs.part_count.Goals as goal

pub returns-clause-parts_counted : goal.returns-clause-parts_counted
returns-clause-parts_counted c = λ next s tracked used S xs r e. sym (c.row.ensures.parts_stand next s tracked used S xs r e).1
