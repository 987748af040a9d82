use Rattle.std.proofs.Common.{◌∙◌, sym}
use Rattle.shelf_types.proofs.Fitted.{given_type}
use Rattle.shelf_field.proofs.Single.{type_of_operand, type_of_none}
use Rattle.shelf_field.proofs.value_type.Goals as goal

pub returns-in_err-operand : goal.returns-in_err-operand
returns-in_err-operand c = λ b s types τ g h. rw c.from_residual.ensures (type_of_none τ c.args.x (sym c.in_err-operand.was ∙ c.operand.ensures))

pub returns : goal.returns
returns c = λ b s types τ g h.
    type_of_operand b.next τ c.args.x (sym c.in_ok-operand.was ∙ c.operand.ensures) h (λ k. given_type _ g k c.recorded_type.ensures)
