use mathlib.Core.Path.{ap}
use Rattle.mir.specs.Kind.{number_of_kind}
use Rattle.shelf_reason1.proofs.Whole.{at_kind, nop_agrees}
use Rattle.shelf_reason1.proofs.agrees.Goals as goal

pub returns-in-Nop : goal.returns-in-Nop
returns-in-Nop c = λ τ seen k i n g e.
    let a = c.args in
    at_kind a.typing.code.bounds seen k τ a.t.now i n 8 (ap number_of_kind c.in-Nop.is) e (λ q. nop_agrees τ q)
