use mathlib.Core.Path.{refl, ◌∙◌, sym}
use Rattle.std.proofs.lemmas.Option.{none-some}
use Rattle.shelf.specs.Agrees.{pointed}
use Rattle.shelf_place.proofs.Places.{pointed_first, step_is}
use Rattle.shelf_place.proofs.pointed_type.Goals as goal

pub returns-in_err-step_at : goal.returns-in_err-step_at
returns-in_err-step_at c = λ recorded τ o ps g e l h.
    let a = c.args in
    rw c.from_residual.ensures (pointed_first a.code.bounds.next a.steps.bytes.now a.steps.at a.steps.count τ o ps l h c.if-steps-eq0.false
    (λ q qs w m k. absurd (none-some q (sym c.in_err-step_at.was ∙ c.step_at.ensures q w))))

pub returns-in-Index : goal.returns-in-Index
unfolding pointed
returns-in-Index c = λ recorded τ o ps g e l h.
    let a = c.args in
    pointed_first a.code.bounds.next a.steps.bytes.now a.steps.at a.steps.count τ o ps l h c.if-steps-eq0.false
    (λ q qs w m k. let z = step_is (rw c.in-Index.is at (sym c.in_ok-step_at.was ∙ c.step_at.ensures q w)) in
    rw z (c.end_type.ensures recorded τ o qs g e (rw c.projection_end.ensures.0 m) k))

pub returns-in-Field : goal.returns-in-Field
unfolding pointed
returns-in-Field c = λ recorded τ o ps g e l h.
    let a = c.args in
    pointed_first a.code.bounds.next a.steps.bytes.now a.steps.at a.steps.count τ o ps l h c.if-steps-eq0.false
    (λ q qs w m k. let z = step_is (rw c.in-Field.is at (sym c.in_ok-step_at.was ∙ c.step_at.ensures q w)) in rw z refl)

pub returns-in-Tuple : goal.returns-in-Tuple
unfolding pointed
returns-in-Tuple c = λ recorded τ o ps g e l h.
    let a = c.args in
    pointed_first a.code.bounds.next a.steps.bytes.now a.steps.at a.steps.count τ o ps l h c.if-steps-eq0.false
    (λ q qs w m k. let z = step_is (rw c.in-Tuple.is at (sym c.in_ok-step_at.was ∙ c.step_at.ensures q w)) in rw z refl)
