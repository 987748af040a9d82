use Rattle.std.proofs.Common.{arith}
use Rattle.text.proofs.Writing.{written_behind}
use Rattle.text.proofs.Laws.{length_hexadecimal}
use Rattle.text_lines.specs.Lines.{lowered_lines}
use Rattle.text_lines.proofs.lowered_lines.Goals as goal

pub put_bytes-requires-clause-room : goal.put_bytes-requires-clause-room
put_bytes-requires-clause-room c =
    omega (arith, c.put_hexadecimal-end.ensures.place, length_hexadecimal c.args.bytes.now, c.numbers_line-line.ensures.upper_bound)

pub returns-clause-written : goal.returns-clause-written
unfolding lowered_lines
returns-clause-written c = written_behind c.numbers_line-line.ensures.written (written_behind c.put_hexadecimal-end.ensures c.put_bytes.ensures)

pub returns-clause-upper_bound : goal.returns-clause-upper_bound
returns-clause-upper_bound c =
    let digits = c.put_hexadecimal-end.ensures in
    omega (arith, c.put_bytes.ensures.place, digits.place, length_hexadecimal c.args.bytes.now, c.numbers_line-line.ensures.upper_bound)
