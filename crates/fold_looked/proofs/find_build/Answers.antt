use Rattle.fold_looked.proofs.Looking.{finds_build}
use Rattle.fold_looked.proofs.find_build.Goals as goal

pub returns : goal.returns
returns c =
    let a = c.args in
    finds_build a.code a.slot a.tables a.family.now c.family-found.new.marks
    a.members.now c.family-found.new.members c.dest-dest.result c.byte_at-shape.result c.family-found.result c.member_indexed-looked.result
    c.dest-dest.ensures c.byte_at-shape.ensures c.family-found.ensures c.member_indexed-looked.ensures
