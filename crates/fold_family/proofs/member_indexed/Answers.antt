use Rattle.std.proofs.Common.{rules, tests, arith, refl, ◌∙◌, false, get_or}
use Rattle.std.proofs.lemmas.Iterator.{YieldsList-from_range}
use Rattle.std.proofs.lemmas.Iterator.Search.{any_from_yields_List}
use Rattle.fold_family.proofs.Listed.{places_met, indexed_found}
use Rattle.fold_family.proofs.member_indexed.Goals as goal

pub returns : goal.returns
returns c =
    let a = c.args in
    indexed_found a.members.now a.n a.dynamic.now
    (λ m f.
    any_from_yields_List (λ k. get_or a.dynamic.now (get_or a.members.now k 0) false) _ _ c.any.result c.any.ensures.ran
    (YieldsList-from_range 0 a.n a.n refl (omega arith)) (λ x b q k. search (rules, tests))
    ∙ places_met a.members.now a.n m a.dynamic.now f)
