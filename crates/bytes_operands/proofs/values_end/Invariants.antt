use Rattle.bytes_operands.proofs.Loops.{Going}
use Rattle.std.proofs.Common.{◌+◌, ◌*◌, ◌≤◌}
use Rattle.bytes_operands.specs.Fields.{value_step}
use Rattle.bytes_operands.proofs.values_end.Given as goal

abbrev pub invariant-loop-j : goal.invariant-loop-j
invariant-loop-j l = Going (value_step l.t l.before l.gap) l.k l.at l.here l.j × (l.here ≤ l.at + 600 * l.j)
