use mathlib.Core.Bool.{not}
use mathlib.Core.Path.{ap}
use Rattle.shelf_marks.proofs.Bases.{base_other, base_kept, base_marked}
use Rattle.mir.specs.declared.kind.Kind.{Kind}
use Rattle.mir.proofs.Numbers.{names_one, kind_other, kind_found}
use Rattle.shelf_reason3.proofs.mark_base.Goals as goal

pub returns-then-is_aggregate : goal.returns-then-is_aggregate
returns-then-is_aggregate c =
    let a = c.args in
    base_marked a.code a.slot a.marks.now (kind_found _ _ Kind.Store c.instruction_kind.ensures (ap not c.if-eq.ensures)) c.read-v.ensures
    c.is_aggregate.ensures c.if-is_aggregate.true c.put.ensures

pub returns-else-is_aggregate : goal.returns-else-is_aggregate
returns-else-is_aggregate c =
    let a = c.args in
    base_kept a.code a.slot a.marks.now (kind_found _ _ Kind.Store c.instruction_kind.ensures (ap not c.if-eq.ensures)) c.read-v.ensures
    c.is_aggregate.ensures c.if-is_aggregate.false

pub returns-else-eq : goal.returns-else-eq
returns-else-eq c =
    let a = c.args in
    base_other a.code a.slot a.marks.now (λ z. kind_other _ Kind.Store (ap not c.if-eq.ensures) (names_one _ _ Kind.Store c.instruction_kind.ensures z))
