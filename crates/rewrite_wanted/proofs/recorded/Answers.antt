use Rattle.std.proofs.Common.{arith, sym}
use Rattle.mir.specs.Option.{as_option}
use Rattle.rewrite_wanted.proofs.Asking.{recorded_told}
use Rattle.rewrite_wanted.proofs.recorded.Goals as goal

pub returns : goal.returns
returns c = λ τ g l. recorded_told τ _ _ _ _ _ _ (as_option c.recorded_type.result) g.known (sym c.recorded.ensures) (omega (arith, g.values)) c.recorded_type.ensures
