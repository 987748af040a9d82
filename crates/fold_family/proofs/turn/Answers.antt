use mathlib.Core.Path.{refl}
use Rattle.fold_family.specs.Search.{Turn}
use Rattle.fold_family.proofs.turn.Goals as goal

pub returns-in-Some : goal.returns-in-Some
returns-in-Some c = Turn.looks c.in-Some.k c.in-Some.is refl c.copy_at-in-Some.ensures c.join-found.ensures
