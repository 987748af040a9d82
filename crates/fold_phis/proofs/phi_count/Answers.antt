use Rattle.std.proofs.Common.{◌≡◌, refl, ◌∙◌, rules, arith}
use Rattle.std.specs.List.{prefix_len, range_with_len}
use Rattle.std.proofs.lemmas.List.Folds.{length-prefix_len}
use Rattle.std.proofs.lemmas.Iterator.{YieldsList-from_range}
use Rattle.std.proofs.lemmas.Iterator.Consumers.{count_from_yields_List}
use Rattle.std.proofs.lemmas.Iterator.Search.{YieldsList-from_take_while}
use Rattle.fold_phis.specs.Skipped.{phi_in}
use Rattle.fold_phis.proofs.FrontPhis.{front_phis, counting}
use Rattle.fold_phis.proofs.phi_count.Goals as goal

-- how many slots from the first on hold a phi
counted : (c : goal.After-count) → c.count.result ≡ prefix_len (phi_in c.args.facts.now) (range_with_len c.args.slots.first c.args.slots.count)
counted c =
    let a = c.args in
    let first = a.slots.first in
    let n = a.slots.count in
    count_from_yields_List _ _ c.count.ensures.ran
    (YieldsList-from_take_while _ (phi_in a.facts.now)
    (YieldsList-from_range first c.end.result n (c.take_while-phis.ensures.source ∙ refl) (omega (arith, c.end.ensures)))
    c.take_while-phis.ensures.closure c.take_while-phis.ensures.done (λ x b q k. search rules))
    ∙ length-prefix_len (phi_in a.facts.now) (range_with_len first n)

pub returns-clause-few : goal.returns-clause-few
returns-clause-few c = (counting c.args.facts.now c.args.slots (counted c)).low

pub returns-clause-counted : goal.returns-clause-counted
returns-clause-counted c b s is at l = rw (counted c, ← l) (front_phis b s c.args.facts.now c.args.slots.first is at)
