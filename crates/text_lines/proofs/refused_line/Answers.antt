use Rattle.text_lines.specs.Lines.{refused_line}
use Rattle.text.proofs.Writing.{written_behind}
use Rattle.text_lines.proofs.refused_line.Goals as goal

pub returns-clause-written : goal.returns-clause-written
unfolding refused_line
returns-clause-written c =
    let offset = written_behind c.put_decimal-second.ensures.written c.put_bytes.ensures in
    let behind = written_behind c.put_bytes-blank.ensures offset in
    let number = written_behind c.put_decimal-first.ensures.written behind in
    written_behind c.put_bytes-word.ensures number
