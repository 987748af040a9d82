use Rattle.std.proofs.Common.{rules, tests, arith, refl, ◌∙◌, get_or}
use Rattle.std.specs.List.{range_with_len}
use Rattle.std.proofs.lemmas.Iterator.{YieldsList-from_range}
use Rattle.std.proofs.lemmas.Iterator.Search.{any_from_yields_List}
use Rattle.fold_family.proofs.Listed.{places_met}
use Rattle.fold_readers.specs.Readers.{foreign, foreigners}
use Rattle.fold_readers.proofs.Elsewhere.{any_foreign, abroad_found}
use Rattle.fold_readers.proofs.listed_abroad.Goals as goal

pub returns : goal.returns
returns c =
    let a = c.args in
    abroad_found a.members.now a.n a.own.number a.readers.now a.own.low
    (λ m f.
    any_from_yields_List (λ k. foreign a.own.number (get_or a.readers.now (get_or a.members.now k 0) 0)) _ _ c.any.result c.any.ensures.ran
    (YieldsList-from_range 0 a.n a.n refl (omega arith)) (λ x b q k. search (rules, tests))
    ∙ any_foreign a.own.number a.readers.now (λ k. get_or a.members.now k 0) (range_with_len 0 a.n)
    ∙ places_met a.members.now a.n m (foreigners a.own.number a.readers.now) f)
