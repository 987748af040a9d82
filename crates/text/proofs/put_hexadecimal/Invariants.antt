use Rattle.text.proofs.Writing.{Writing}
use lib.ListN.{drop}
use Rattle.std.proofs.Common.{◌≡◌, ◌+◌, ◌*◌}
use Rattle.text.specs.Digits.{hexadecimal}
use Rattle.text.proofs.put_hexadecimal.Given as goal

abbrev pub invariant-loop-b : goal.invariant-loop-b
invariant-loop-b l = (l.at ≡ l.to + 2 * l.b-index) × Writing (hexadecimal l.bytes) (hexadecimal (drop l.b-index l.bytes)) l.initial.text l.text l.to l.at
