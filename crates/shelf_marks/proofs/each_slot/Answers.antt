use Rattle.std.proofs.Common.{refl, arith, rules, tests, true, false}
use Rattle.std.proofs.lemmas.Iterator.{YieldsList-from_range, cases_from_all}
use Rattle.shelf_marks.proofs.Scanning.{answers, slots_answered}
use Rattle.shelf_marks.proofs.each_slot.Goals as goal

pub returns : goal.returns
returns g c =
    let at = c.block_slots-slots.result in
    let post = goal.F-post g c.args.test in
    slots_answered c.args.code c.args.k.0 at post c.block_slots-slots.ensures c.all.result
    (answers post at.first at.count c.all.result
    (cases_from_all _ _ _ (λ x. post x true) (λ x. post x false) c.all.ensures.ran
    (YieldsList-from_range at.first c.end.result at.count refl (omega (arith, c.end.ensures))) (λ x q k. search (rules, tests)) (λ x q k. search (rules, tests))))
