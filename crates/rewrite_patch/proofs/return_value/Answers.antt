use Rattle.std.proofs.Common.{arith}
use Rattle.bytes_laws.specs.WellFormed.{Wide}
use Rattle.rewrite_patch.proofs.Returns.{return_value_is}
use Rattle.rewrite_patch.proofs.return_value.Goals as goal

pub returns : goal.returns
returns c = λ xs k l.
    let a = c.args in
    let w : Wide a.code.bounds = record { types = omega arith; next = omega arith; blocks = omega arith; list = omega arith; projections = omega arith } in
    c.value_at.ensures _
    (rw (c.instruction.ensures, c.saturating_sub-place.ensures) (return_value_is a.code a.slot xs k a.j c.return_place.result l w (c.return_place.ensures.places xs k l)))
