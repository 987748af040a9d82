use Rattle.std.proofs.Common.{rules}
use mathlib.Core.Path.{refl, ap, ◌∙◌}
use native.Mathlib.Nat.{zero-add}
use native.Mathlib.Omega.{arith}
use Rattle.std.proofs.lemmas.Iterator.{YieldsList-from_range}
use Rattle.std.proofs.lemmas.Iterator.Search.{all_from_yields_List}
use Rattle.mir.specs.Lookup.{row_of}
use Rattle.mir.specs.Parts.{given, part_type}
use Rattle.shelf_list.specs.Asked.{given_to, field_name}
use Rattle.shelf_list.proofs.Tests.{fields_all}
use Rattle.shelf_list.proofs.fields_fit.Goals as goal

pub returns : goal.returns
returns c = λ τ o fs ss g e l h m k p.
    let a = c.args in
    all_from_yields_List (λ j. given_to τ (given (field_name a.row.now j) fs) (part_type (row_of τ o) j)) _ _ _ c.all.ensures.ran
    (YieldsList-from_range 0 a.list.count a.list.count refl (omega arith)) (λ x b q t. search (rules, g, e, l, h))
    ∙ (rw k at (fields_all τ fs a.row.now (row_of τ o) 0 ss
    (λ j w. ap (λ z. record { 0 = z }) (rw (zero-add j) (m.each j w))) (λ j w. rw (zero-add j) (p j w))))
