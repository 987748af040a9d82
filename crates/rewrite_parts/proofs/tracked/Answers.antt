use Rattle.rewrite_parts.proofs.Tables.{found_mark}
use Rattle.std.proofs.Common.{◌∙◌}
use Rattle.rewrite_parts.proofs.tracked.Goals as goal

pub returns : goal.returns
returns c = λ next s rows used S r. c.flag.ensures ∙ found_mark r _
