use Rattle.std.proofs.Common.{rules, refl, ◌≡◌}
use Rattle.std.specs.Prelude.{Err}
use Rattle.rewrite.specs.Fault.{first_met}
use Rattle.rewrite_descent.proofs.number_and_line.Goals as goal

pub returns-in_err-one_more : goal.returns-in_err-one_more
unfolding first_met
returns-in_err-one_more c =
    let z : c.from_residual.result ≡ Err c.in_err-one_more.field-0.0 = search rules in
    rw (z, ← c.in_err-one_more.ensures) refl

pub returns : goal.returns
unfolding first_met
returns c = rw (c.one_more-2.ensures, ← c.in_ok-one_more.ensures) refl
