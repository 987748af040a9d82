use Rattle.std.proofs.Common.{refl}
use Rattle.mir.specs.Option.{as_option}
use Rattle.rewrite_chains.proofs.Walks.{looked}
use Rattle.rewrite_chains.proofs.Ends.{steps_read}
use Rattle.rewrite_chains.proofs.Booleans.{passed_more, passed_met, passed_all}
use Rattle.rewrite_chains.proofs.no_boolean.Goals as goal

pub returns-then-is_boolean : goal.returns-then-is_boolean
returns-then-is_boolean c = λ i p o w.
    passed_met c.loop-k.invariant c.is_boolean.ensures (looked _ _ _ (as_option c.projection.result) c.projection.ensures) c.if-is_boolean.true
    (steps_read o c.instruction-t.ensures c.own_fields.ensures w refl c.step_count-n.ensures)

pub loop-k-preserved : goal.loop-k-preserved
loop-k-preserved c =
    passed_more c.loop-k.invariant c.is_boolean.ensures (looked _ _ _ (as_option c.projection.result) c.projection.ensures) c.if-is_boolean.false

pub returns : goal.returns
returns c = λ i p o w.
    passed_all c.loop-k.invariant c.loop-k-test.false (steps_read o c.instruction-t.ensures c.own_fields.ensures w refl c.step_count-n.ensures)
