use Rattle.fold_cross.proofs.Uniting.{unites_first}
use Rattle.fold_cross.proofs.unite_abroad.Goals as goal

pub returns-then-listed_abroad : goal.returns-then-listed_abroad
returns-then-listed_abroad c =
    let a = c.args in
    λ h m ks f l e. rw (← c.listed_abroad.ensures m ks f e, c.if-listed_abroad.true)
    (unites_first a.members.now a.n a.marks.now _ m _ c.first_members.ensures c.mark_members.ensures h f l)
