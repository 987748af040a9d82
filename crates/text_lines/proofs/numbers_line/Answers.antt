use Rattle.std.proofs.Common.{◌+◌, ◌-◌, length, arith}
use Rattle.text_lines.proofs.Laws.{numbers_on, numbers_done, behind_one}
use Rattle.text_lines.proofs.numbers_line.Goals as goal

pub loop-i-preserved : goal.loop-i-preserved
loop-i-preserved c =
    let a = c.args in
    let inv = c.loop-i.invariant in
    let number = c.put_decimal-end.ensures in
    let end = c.put_behind-at.ensures in (
      omega arith,
      omega (arith, end.place, behind_one (length a.numbers.now - (c.loop-i.i + 1)), number.upper_bound, inv.1),
      numbers_on a.numbers.now a.text.now _ _ _ _ _ _ _ c.loop-i-test.true inv.2 number.written end,
    )

pub returns-clause-written : goal.returns-clause-written
returns-clause-written c = numbers_done c.args.numbers.now c.args.text.now _ _ _ c.loop-i-test.false c.loop-i.invariant.2
