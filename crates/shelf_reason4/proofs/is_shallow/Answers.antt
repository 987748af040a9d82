use mathlib.Core.Bool.{not}
use mathlib.Core.Path.{ap}
use Rattle.mir.specs.declared.kind.Kind.{Kind}
use Rattle.mir.proofs.Numbers.{names_one, kind_other, kind_found}
use Rattle.shelf_marks.proofs.Storing.{shallow_other, shallow_kept, shallow_found}
use Rattle.shelf_reason4.proofs.is_shallow.Goals as goal

pub returns-then-ne : goal.returns-then-ne
returns-then-ne c =
    let a = c.args in
    shallow_other a.code a.slot a.dropped.now (λ z. kind_other _ Kind.Store c.if-ne.ensures (names_one _ _ Kind.Store c.instruction_kind.ensures z))

pub returns-then-not-flag : goal.returns-then-not-flag
returns-then-not-flag c =
    let a = c.args in
    shallow_kept a.code a.slot a.dropped.now (kind_found _ _ Kind.Store c.instruction_kind.ensures c.if-ne.ensures) c.read-base.ensures
    c.flag.ensures (ap not c.if-not-flag.true)

pub returns : goal.returns
returns c =
    let a = c.args in
    shallow_found a.code a.slot a.dropped.now (kind_found _ _ Kind.Store c.instruction_kind.ensures c.if-ne.ensures) c.read-base.ensures
    c.flag.ensures (ap not c.if-not-flag.false) c.projection.result c.instruction.ensures c.projection.ensures _ c.is_none.ensures
