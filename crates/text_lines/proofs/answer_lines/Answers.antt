use Rattle.text.proofs.Writing.{written_as}
use Rattle.text_lines.proofs.Laws.{answer_refused, answer_taken}
use Rattle.text_lines.proofs.answer_lines.Goals as goal

pub returns-then-numbers-ne0-clause-written : goal.returns-then-numbers-ne0-clause-written
returns-then-numbers-ne0-clause-written c =
    written_as (answer_refused c.args.numbers.now c.args.output.now c.if-numbers-ne0.true) c.refused_line.ensures.written

pub returns-clause-written : goal.returns-clause-written
returns-clause-written c =
    written_as (answer_taken c.args.numbers.now c.args.output.now _ c.if-numbers-ne0.false c.min-size.ensures) c.lowered_lines.ensures.written
