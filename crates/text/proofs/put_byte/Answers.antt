use Rattle.std.proofs.Common.{add-one}
use Rattle.text.specs.Digits.{hexadecimal}
use Rattle.text.proofs.put_byte.Goals as goal

pub returns : goal.returns
unfolding hexadecimal
returns c = simp (c.put_u8-2.ensures, c.digit-2.ensures, c.put_u8.ensures, c.digit.ensures, add-one)
