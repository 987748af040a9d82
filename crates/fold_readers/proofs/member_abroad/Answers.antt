use mathlib.Core.Path.{◌∙◌}
use Rattle.std.proofs.Common.{rules, tests, get_or, length}
use Rattle.std.proofs.lemmas.Iterator.{YieldsList-from_slice}
use Rattle.std.proofs.lemmas.Iterator.Search.{any_from_yields_List}
use Rattle.fold_family.proofs.Listed.{list_met}
use Rattle.fold_readers.specs.Readers.{foreign, foreigners}
use Rattle.fold_readers.proofs.Elsewhere.{any_foreign, abroad_found}
use Rattle.fold_readers.proofs.member_abroad.Goals as goal

pub returns : goal.returns
returns c =
    let a = c.args in
    abroad_found a.members.now (length a.members.now) a.own.number a.readers.now a.own.low
    (λ m f.
    any_from_yields_List (λ v. foreign a.own.number (get_or a.readers.now v 0)) c.any.new.self _ c.any.result c.any.ensures.ran
    (YieldsList-from_slice a.members.now cc) (λ x b q k. search (rules, tests))
    ∙ any_foreign a.own.number a.readers.now (λ v. v) a.members.now ∙ list_met a.members.now m (foreigners a.own.number a.readers.now) f)
