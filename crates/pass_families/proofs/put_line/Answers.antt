use mathlib.Core.Path.{refl, ap}
use Rattle.text.proofs.Writing.{written_as}
use Rattle.text_lines.specs.Lines.{numbers_line}
use Rattle.pass_families.proofs.Line.{with_members}
use Rattle.pass_families.proofs.put_line.Goals as goal

pub returns-clause-written : goal.returns-clause-written
returns-clause-written c =
    let a = c.args in
    let m = c.list_members-many in
    let e = c.copy_from_slice.ensures.after in
    written_as (ap numbers_line
    (rw e (with_members a.named a.at.block a.at.instruction a.build a.family.now _ m.new.line m.result
    c.if-not-named.false m.ensures.listed m.ensures.upper_bound c.requires (rw e refl))))
    c.numbers_line-2.ensures.written
