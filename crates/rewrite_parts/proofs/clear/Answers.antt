use Rattle.std.proofs.Common.{ap, ◌∙◌, false, get_or}
use Rattle.table.proofs.Elements.{clear_at}
use Rattle.rewrite_parts.proofs.Tables.{rep_clear}
use Rattle.rewrite_parts.proofs.clear.Goals as goal

pub returns : goal.returns
returns c = λ next s rows used h b m l.
    rep_clear (λ v. ap (λ xs. get_or xs v false) (c.fill.ensures.after (λ y e. e)) ∙ clear_at _ v) h b (c.fill.ensures.len ∙ m) l
