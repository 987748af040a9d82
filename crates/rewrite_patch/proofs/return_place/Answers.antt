use Rattle.std.proofs.Common.{◌∙◌, ap, arith}
use Rattle.bytes_operands.specs.Fields.{value_step, after}
use Rattle.rewrite_patch.proofs.Returns.{return_place_is}
use Rattle.rewrite_patch.proofs.return_place.Goals as goal

pub returns-clause-places : goal.returns-clause-places
returns-clause-places c = λ xs k l.
    let a = c.args in
    omega (arith, c.values_end.ensures.0 ∙ ap (λ s. after (value_step s 0 0) a.j 2) c.instruction.ensures, return_place_is a.code a.slot xs k a.j l)
