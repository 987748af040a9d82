use mathlib.Core.Path.{◌≡◌, ◌∙◌}
use Rattle.std.proofs.Common.{rules, tests, ◌&&◌}
use Rattle.std.proofs.lemmas.Iterator.{YieldsList-from_slice, YieldsList-from_zip}
use Rattle.std.proofs.lemmas.Iterator.Search.{any_from_yields_List}
use Rattle.fold_family.specs.Copies.{meets}
use Rattle.fold_readers.specs.Readers.{foreign, foreigners}
use Rattle.fold_readers.proofs.Elsewhere.{zip_foreign, elsewhere_found}
use Rattle.fold_readers.proofs.read_elsewhere.Goals as goal

pub returns : goal.returns
returns c =
    let a = c.args in
    let e : c.any.result ≡ meets a.marks.now (foreigners a.own.number a.readers.now) =
    any_from_yields_List (λ p. p.0 && foreign a.own.number p.1) c.any.new.self _ c.any.result c.any.ensures.ran
    (YieldsList-from_zip (YieldsList-from_slice a.marks.now cc) (YieldsList-from_slice a.readers.now cc)) (λ x b q k. search (rules, tests))
    ∙ zip_foreign a.own.number a.marks.now a.readers.now
    in
    record { met = e; elsewhere = (elsewhere_found a.marks.now a.own.number a.readers.now a.own.low e).1 }
