use Rattle.std.proofs.Common.{arith, sym}
use Rattle.pass_numbers.proofs.Laws.{by_place}
use Rattle.pass_numbers.proofs.settings_by.Goals as goal

pub returns : goal.returns
returns c =
    by_place c.args.choices.now _ _ _ _ _ _ c.at.ensures c.at-2.ensures c.at-most.ensures c.at-3.ensures (sym c.edition_of.ensures)
    (λ h. omega (arith, c.min.ensures)) (λ h. omega (arith, c.min.ensures))
