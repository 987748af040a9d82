use mathlib.Core.Path.{ap}
use Rattle.mir.specs.TerminatorKind.{number_of_terminator_kind}
use Rattle.shelf_reason1.proofs.Whole.{at_end, jump_agrees, over_agrees}
use Rattle.shelf_reason1.proofs.end_fits.Goals as goal

pub returns-in-Jump : goal.returns-in-Jump
returns-in-Jump c = λ τ x n g e.
    let a = c.args in
    at_end a.typing.code.bounds τ a.t.now x n 0 (ap number_of_terminator_kind c.in-Jump.is) e (λ q. jump_agrees a.typing.code.bounds a.t.now τ q)

pub returns-in-Unreachable : goal.returns-in-Unreachable
returns-in-Unreachable c = λ τ x n g e.
    let a = c.args in
    at_end a.typing.code.bounds τ a.t.now x n 4 (ap number_of_terminator_kind c.in-Unreachable.is) e (λ q. over_agrees τ q)
