use Rattle.text_lines.specs.Lines.{replayed_line}
use Rattle.text.proofs.Writing.{written_behind}
use Rattle.text_lines.proofs.replayed_line.Goals as goal

pub returns-clause-written : goal.returns-clause-written
unfolding replayed_line
returns-clause-written c =
    let others = written_behind c.put_decimal-second.ensures.written c.put_bytes.ensures in
    let words = written_behind c.put_bytes-words.ensures others in
    written_behind c.put_decimal-first.ensures.written words
