-- The code's totals are those of what is given.
use Rattle.std.proofs.Common.{arith}
use Rattle.pass_numbers.proofs.Laws.{Fit}
use Rattle.pass.proofs.Entry.{counted}
use Rattle.pass.proofs.lower_counted.Goals as goal

pub returns : goal.returns
returns c =
    let fit : Fit c.args.totals =
    record {
      builds = omega arith;
      extracts = omega arith;
      inserts = omega arith;
      assigns = omega arith;
      materializations = omega arith;
    }
    in
    counted _ c.args.input.now c.args.output.now _ _ _ _ (λ j. omega (arith, c.type_inv.input j)) fit
    c.lower_into-answer.ensures c.totals_after.ensures
