use Rattle.std.proofs.lemmas.List.{take_min}
use Rattle.rewrite_descent.proofs.rows.Goals as goal

pub returns : goal.returns
returns c = rw c.min.ensures (take_min 2432 c.args.work.now)
