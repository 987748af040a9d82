use Rattle.std.proofs.Common.{◌∙◌, sym}
use Rattle.shelf_types.proofs.Fitted.{operand_fit, given_type, equal_operand}
use Rattle.shelf_types.proofs.equal_types.Goals as goal

pub returns-in-Operand : goal.returns-in-Operand
returns-in-Operand c = λ τ g h k.
    let u = c.fits-in-Operand.ensures τ _ g (given_type _ g (operand_fit k c.in-Operand.is) c.recorded_type-in-Operand.ensures) h in
    rw c.in-Operand.is (u ∙ sym (equal_operand τ c.args.x c.in-Operand.w))
