use Rattle.std.proofs.Common.{rules}
use Rattle.shelf.specs.Agrees.{index_fits}
use Rattle.shelf_field.specs.Fields.{StepAt}
use Rattle.shelf_field.proofs.Passing.{passing_every}
use Rattle.shelf_place.proofs.indexes_fit.Goals as goal

pub returns : goal.returns
returns c = λ τ ps g l h.
    passing_every {Q = StepAt c.args.typing.code.bounds.next c.args.steps.bytes.now} c.args.steps.count (index_fits τ) c.each_passes.ensures
    (λ p q e. search rules) (λ i p x r q t. t τ x g q) ps l h
