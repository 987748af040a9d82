use Rattle.mir.specs.declared.kind.Kind.{Kind}
use Rattle.mir.proofs.Numbers.{kind_found}
use Rattle.fold_looked.proofs.Looking.{looks_at}
use Rattle.fold_looked.proofs.look.Goals as goal

pub returns : goal.returns
returns c =
    let a = c.args in
    let b = c.find_build-build in
    looks_at a.code a.slot a.tables a.family.now b.new.family c.unmark.new.marks a.members.now b.new.members b.result
    (kind_found _ c.instruction_kind.result Kind.MakeFixedArray c.instruction_kind.ensures c.if-ne.ensures)
    b.ensures c.unmark.ensures
