use Rattle.std.proofs.Common.{arith}
use Rattle.rewrite_chains.proofs.Steps.{part_some}
use Rattle.rewrite_chains.proofs.path.step_operand.Goals as goal

pub returns : goal.returns
returns c =
    λ τ S w h.
    part_some (c.in_ok-place.ensures τ S w h)
    (λ x a. c.operand_at.ensures x w.ground.bytes (omega (arith, w.ground.few)) a)
