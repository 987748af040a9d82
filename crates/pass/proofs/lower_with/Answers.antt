use Rattle.std.proofs.Common.{arith, refl}
use Rattle.pass.proofs.Entry.{lowers_with}
use Rattle.pass.proofs.lower_with.Goals as goal

pub returns : goal.returns
returns c =
    lowers_with _ _ c.args.input.now c.args.output.now _ c.args.page.now _ c.args.answer.now _ _ _ (λ j. omega (arith, c.type_inv.input j))
    (c.settings_by-settings.ensures _ _) c.lower_into-a.ensures c.numbers_of.ensures c.put_answer.ensures refl
