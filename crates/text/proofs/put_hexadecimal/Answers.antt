use Rattle.std.proofs.Common.{arith}
use Rattle.text.proofs.Writing.{hexadecimal_on, hexadecimal_done}
use Rattle.text.proofs.put_hexadecimal.Goals as goal

pub loop-b-preserved : goal.loop-b-preserved
loop-b-preserved c =
    let a = c.args in
    (omega arith, hexadecimal_on a.bytes.now a.text.now _ _ _ _ _ c.loop-b-test.true c.loop-b.invariant.1 c.put_byte.ensures)

pub returns : goal.returns
returns c = hexadecimal_done c.args.bytes.now c.args.text.now _ _ _ _ c.loop-b-test.false c.loop-b.invariant.1
