use Rattle.shelf_field.proofs.Single.{as_read}
use Rattle.shelf_plain.proofs.Short.{assert_agrees}
use Rattle.shelf.specs.Agrees.{equal_types}
use Rattle.shelf_plain.proofs.assert_eq.Goals as goal

pub returns : goal.returns
returns c = λ τ seen i n g e.
    let next = c.args.typing.code.bounds.next in
    (assert_agrees c.args.typing.code.bounds c.args.t.now seen τ c.value_end.ensures.0 (λ x y p q. as_read next (λ z. equal_types τ z y) (c.value_at-x.ensures x p)
    (λ v. as_read next (equal_types τ c.value_at-x.result) (c.value_at-y.ensures y q) (λ w. c.equal_types.ensures τ g v w)))).each i n e
