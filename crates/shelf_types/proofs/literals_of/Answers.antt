use Rattle.mir.specs.Lookup.{value_row}
use Rattle.shelf_types.proofs.Fitted.{operand_fit, given_type}
use Rattle.shelf_types.proofs.literals_of.Goals as goal

pub returns-in-Operand : goal.returns-in-Operand
unfolding value_row
returns-in-Operand c = λ τ g h.
    rw c.in-Operand.is (c.scalar_kind.ensures τ _ g.known.rows g.rows (given_type _ g (operand_fit h c.in-Operand.is) c.recorded_type.ensures))
