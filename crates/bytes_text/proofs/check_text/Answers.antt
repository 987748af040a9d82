use Rattle.bytes_sections.specs.Decode.{mosts, whole_of}
use Rattle.text.proofs.Writing.{written_as}
use Rattle.bytes_text.proofs.Laws.{verdict_text}
use Rattle.bytes_text.proofs.check_text.Goals as goal

pub returns-clause-written : goal.returns-clause-written
returns-clause-written c = written_as (verdict_text (whole_of mosts c.args.s.now) _ _ c.check-number.ensures) c.checked_line.ensures.written
