use Rattle.std.proofs.Common.{arith}
use Rattle.pass.proofs.Entry.{lowers}
use Rattle.pass.proofs.lower.Goals as goal

pub returns : goal.returns
returns c =
    lowers _ _ c.args.input.now c.args.output.now _ c.args.answer.now _ _ _ (λ j. omega (arith, c.type_inv.input j))
    (c.settings_of-settings.ensures.same _ _) c.lower_into-a.ensures c.numbers_of.ensures c.put_numbers.ensures
