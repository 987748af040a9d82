use Rattle.text.proofs.Writing.{written_as}
use Rattle.text_lines.proofs.Laws.{line_accepted, line_refused}
use Rattle.text_lines.proofs.checked_line.Goals as goal

pub returns-then-number-eq0-clause-written : goal.returns-then-number-eq0-clause-written
returns-then-number-eq0-clause-written c =
    written_as (line_accepted c.args.number c.args.offset c.if-number-eq0.true) c.put_bytes.ensures

pub returns-clause-written : goal.returns-clause-written
returns-clause-written c = written_as (line_refused c.args.number c.args.offset c.if-number-eq0.false) c.refused_line.ensures.written
