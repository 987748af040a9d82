use Rattle.std.proofs.Common.{arith}
use Rattle.mir.specs.Option.{as_option}
use Rattle.rewrite_chains.proofs.Walks.{looked, held_not, held_walked}
use Rattle.rewrite_chains.proofs.path.holder.Goals as goal

pub returns-then-not-is_integer : goal.returns-then-not-is_integer
returns-then-not-is_integer c =
    λ τ S ps w a h l.
    held_not τ S _ ps _ c.projection.result c.is_integer.ensures (looked _ _ _ (as_option c.projection.result) c.projection.ensures ps a)
    c.if-not-is_integer.true

pub returns : goal.returns
returns c =
    λ τ S ps w a h l.
    held_walked τ S _ ps _ c.projection.result c.is_integer.ensures (looked _ _ _ (as_option c.projection.result) c.projection.ensures ps a)
    c.if-not-is_integer.false (c.walk.ensures τ S ps w a h (omega arith))
