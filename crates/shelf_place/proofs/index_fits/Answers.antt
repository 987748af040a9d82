use mathlib.Core.Path.{refl, sym, ◌∙◌}
use native.Mathlib.Omega.{arith}
use Rattle.std.proofs.lemmas.Option.{none-some}
use Rattle.shelf.specs.Agrees.{index_fits}
use Rattle.shelf_place.proofs.Places.{index_value, step_is}
use Rattle.shelf_place.proofs.index_fits.Goals as goal

pub returns-in-Some-Index : goal.returns-in-Some-Index
unfolding index_fits
returns-in-Some-Index c = λ τ q g h.
    let a = c.args in
    let x = c.in-Some-Index.x in
    let z = step_is (sym c.in-Some-Index.is ∙ c.step_at.ensures q h) ∙ c.in-Some-Index.field-0-is in
    rw z (c.is_index.ensures τ g (index_value a.typing.code.bounds.next a.t.now a.at x (λ j. omega (arith, c.type_inv.t j)) (omega arith) (rw z at h)))

pub returns-in-Some-Field : goal.returns-in-Some-Field
unfolding index_fits
returns-in-Some-Field c = λ τ q g h. let z = step_is (sym c.in-Some-Field.is ∙ c.step_at.ensures q h) ∙ c.in-Some-Field.field-0-is in rw z refl

pub returns-in-Some-Tuple : goal.returns-in-Some-Tuple
unfolding index_fits
returns-in-Some-Tuple c = λ τ q g h. let z = step_is (sym c.in-Some-Tuple.is ∙ c.step_at.ensures q h) ∙ c.in-Some-Tuple.field-0-is in rw z refl

pub returns-in-None : goal.returns-in-None
returns-in-None c = λ τ q g h. absurd (none-some q (sym c.in-None.is ∙ c.step_at.ensures q h))
