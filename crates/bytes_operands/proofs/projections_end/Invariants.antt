use Rattle.bytes_operands.proofs.Loops.{Going}
use Rattle.std.proofs.Common.{◌+◌, ◌*◌, ◌≤◌}
use Rattle.bytes_operands.specs.Fields.{projection_end}
use Rattle.bytes_operands.proofs.projections_end.Given as goal

abbrev pub invariant-loop-i : goal.invariant-loop-i
invariant-loop-i l = Going (projection_end l.t) l.k l.at l.here l.i × (l.here ≤ l.at + 6 * l.i)
