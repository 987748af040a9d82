use Rattle.bytes_field.proofs.read_number.Goals as goal
use Rattle.bytes_wire.proofs.Laws.{number_short, number_some}

pub returns-then-s-width : goal.returns-then-s-width
returns-then-s-width c = λ seen buffer. let a = c.args in simp (number_short a.width a.s.now c.if-s-width.true, c.at.ensures)

pub returns : goal.returns
returns c = λ seen buffer. let a = c.args in simp (number_some a.width a.s.now c.if-s-width.false)
