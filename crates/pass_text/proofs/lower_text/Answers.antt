use Rattle.std.proofs.Common.{replicate}
use Rattle.text.proofs.Writing.{written_as}
use Rattle.fold.specs.Scalarizable.{defaults}
use Rattle.pass_text.proofs.Laws.{lines_of}
use Rattle.pass_text.proofs.lower_text.Goals as goal

pub returns-clause-written : goal.returns-clause-written
returns-clause-written c =
    written_as (lines_of defaults c.args.s.now (replicate 65536 0) _ _ c.lower.ensures) c.answer_lines.ensures.written
