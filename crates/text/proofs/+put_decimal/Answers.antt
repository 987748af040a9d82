use Rattle.std.proofs.Common.{arith}
use Rattle.text.proofs.Laws.{decimal_short, one_written, more_written}
use Rattle.text.proofs.+put_decimal.Goals as goal

pub returns-then-x-lt10-clause-written : goal.returns-then-x-lt10-clause-written
returns-then-x-lt10-clause-written t c =
    one_written c.args.text.now _ c.args.to c.args.x _ c.if-x-lt10.true c.digit.ensures c.put_u8.ensures

pub returns-clause-written : goal.returns-clause-written
returns-clause-written t c =
    more_written c.args.text.now _ _ c.args.to _ c.args.x _ c.if-x-lt10.false c.digit-2.ensures c.put_decimal-at.ensures.written c.put_u8-2.ensures

pub returns-clause-upper_bound : goal.returns-clause-upper_bound
returns-clause-upper_bound t c =
    let a = c.args in
    let w = more_written a.text.now _ _ a.to _ a.x _ c.if-x-lt10.false c.digit-2.ensures c.put_decimal-at.ensures.written c.put_u8-2.ensures in
    omega (arith, w.place, decimal_short a.x (omega arith))
