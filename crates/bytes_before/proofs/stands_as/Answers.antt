use Rattle.std.proofs.Common.{rules}
use Rattle.bytes_before.proofs.stands_as.Goals as goal

pub returns : goal.returns
returns c = let e = rw (c.place.ensures, c.place-2.ensures) at c.between.ensures in rw (← e) (search rules)
