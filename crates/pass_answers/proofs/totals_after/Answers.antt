use Rattle.std.proofs.Common.{rules}
use Rattle.std.proofs.lemmas.Result.{MatchResult-weaker}
use Rattle.pass_answers.proofs.Laws.{after_either}
use Rattle.pass_answers.proofs.totals_after.Goals as goal

pub returns : goal.returns
returns c =
    let a = c.args in
    after_either a.t a.a _ (MatchResult-weaker a.a c.map_or.ensures (λ l h. search rules) (λ e h. h))
