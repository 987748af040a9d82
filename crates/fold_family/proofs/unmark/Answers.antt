use Rattle.fold_family.proofs.Listed.{cleared_first, cleared_past}
use Rattle.fold_family.proofs.unmark.Goals as goal

pub returns-then-members-n : goal.returns-then-members-n
returns-then-members-n c =
    let a = c.args in
    cleared_past a.members.now a.n a.marks.now _ _ c.first_members.ensures c.mark_members.ensures c.if-members-n.true c.put.ensures

pub returns-else-members-n : goal.returns-else-members-n
returns-else-members-n c =
    let a = c.args in
    cleared_first a.members.now a.n a.marks.now _ _ c.first_members.ensures c.mark_members.ensures c.if-members-n.false
