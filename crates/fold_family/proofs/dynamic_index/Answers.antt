use mathlib.Core.Path.{◌≡◌, ◌∙◌}
use Rattle.std.proofs.Common.{rules, tests, ◌&&◌}
use Rattle.std.proofs.lemmas.Iterator.{YieldsList-from_slice, YieldsList-from_zip}
use Rattle.std.proofs.lemmas.Iterator.Search.{any_from_yields_List}
use Rattle.fold_family.specs.Copies.{meets}
use Rattle.fold_family.proofs.Dynamic.{zip_meets, dynamic_found}
use Rattle.fold_family.proofs.dynamic_index.Goals as goal

pub returns : goal.returns
returns c =
    let a = c.args in
    let e : c.any.result ≡ meets a.marks.now a.dynamic.now =
    any_from_yields_List (λ p. p.0 && p.1) c.any.new.self _ c.any.result c.any.ensures.ran
    (YieldsList-from_zip (YieldsList-from_slice a.marks.now cc) (YieldsList-from_slice a.dynamic.now cc)) (λ x b q k. search (rules, tests))
    ∙ zip_meets a.marks.now a.dynamic.now
    in
    record { met = e; indexed = (dynamic_found a.marks.now a.dynamic.now e).1 }
