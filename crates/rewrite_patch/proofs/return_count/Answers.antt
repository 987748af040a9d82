use Rattle.std.proofs.Common.{◌∙◌, ap, arith, get_or}
use Rattle.bytes_laws.specs.WellFormed.{Wide}
use Rattle.rewrite_patch.proofs.Returns.{return_many, return_few}
use Rattle.rewrite_patch.proofs.return_count.Goals as goal

pub returns : goal.returns
returns c = λ xs k.
    let a = c.args in
    let w : Wide a.code.bounds = record { types = omega arith; next = omega arith; blocks = omega arith; list = omega arith; projections = omega arith } in
    let e = c.byte_at.ensures ∙ ap (λ s. get_or s 1 0) c.instruction.ensures ∙ return_many a.code a.slot xs k in
    (e, omega (arith, e, return_few a.code a.slot xs k w))
