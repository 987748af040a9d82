use Rattle.std.proofs.Common.{length, ◌+◌, ◌≤◌}
use Rattle.replay.proofs.replay.Given as goal

abbrev pub invariant-loop-rest : goal.invariant-loop-rest
invariant-loop-rest l = (l.tally.others ≤ l.tally.rows) × (l.tally.rows + length l.rest ≤ length l.s)

abbrev pub decreases-loop-rest : goal.decreases-loop-rest
decreases-loop-rest l = length l.rest
