use Rattle.std.proofs.Common.{arith}
use Rattle.std.proofs.Math.Option.{none, some}
use Rattle.rewrite.specs.State.{step_index}
use Rattle.rewrite_chains.proofs.Steps.{field_step}
use Rattle.rewrite_chains.proofs.path.step_index.Goals as goal

pub returns-in-Index : goal.returns-in-Index
unfolding step_index
returns-in-Index c = λ τ g h. rw c.in-Index.is c.const_integer.ensures

pub returns-in_err-found-in-Field : goal.returns-in_err-found-in-Field
returns-in_err-found-in-Field c = λ τ g h. rw (c.from_residual.ensures, c.in-Field.is) (field_step τ _ _ none (c.in_err-found-in-Field.ensures c.args.code.bounds.list τ (rw (c.typing.ensures.code, c.typing.ensures.recorded) g.known) (rw c.typing.ensures.code g.rows) (omega (arith, g.values))))

pub returns-in_ok-found-in-Field : goal.returns-in_ok-found-in-Field
returns-in_ok-found-in-Field c =
    λ τ g h. rw c.in-Field.is (field_step τ _ _ (some c.in_ok-found-in-Field.found) (c.in_ok-found-in-Field.ensures c.args.code.bounds.list τ (rw (c.typing.ensures.code, c.typing.ensures.recorded) g.known) (rw c.typing.ensures.code g.rows) (omega (arith, g.values))))

pub returns-in-Tuple : goal.returns-in-Tuple
unfolding step_index
returns-in-Tuple c = λ τ g h. rw c.in-Tuple.is
