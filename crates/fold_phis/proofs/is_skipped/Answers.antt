use Rattle.std.proofs.Common.{refl, arith, ◌∙◌, rules}
use Rattle.std.proofs.lemmas.Iterator.{YieldsList-from_range}
use Rattle.std.proofs.lemmas.Iterator.Search.{any_from_yields_List}
use Rattle.fold_phis.specs.Skipped.{tells_phi}
use Rattle.fold_phis.proofs.FrontPhis.{any_phi}
use Rattle.fold_phis.proofs.is_skipped.Goals as goal

pub returns : goal.returns
returns c b σ τ eligible is f m at l =
    let a = c.args in
    let first = a.slots.first in
    let z = any_phi b a.code a.shapes.now σ τ eligible f m first is at in
    any_from_yields_List (tells_phi a.code a.shapes.now) _ _ _ c.any.ensures.ran
    (YieldsList-from_range first c.end.result a.slots.count refl (omega (arith, c.end.ensures))) (λ x b q k. search rules)
    ∙ rw l at z
