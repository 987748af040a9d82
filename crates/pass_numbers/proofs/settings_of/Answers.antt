use Rattle.std.proofs.Common.{arith}
use Rattle.pass_numbers.proofs.Laws.{same_settings}
use Rattle.pass_numbers.proofs.settings_of.Goals as goal

pub returns-clause-same : goal.returns-clause-same
returns-clause-same c = λ room s. same_settings _ _ _ _ _ room s (λ h. omega (arith, c.min.ensures)) (λ h. omega (arith, c.min.ensures))
