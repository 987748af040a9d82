use Rattle.fold_cross.proofs.Builds.{found_nothing, found_dest}
use Rattle.fold_cross.proofs.find_family.Goals as goal

pub returns-in-None : goal.returns-in-None
returns-in-None c = let a = c.args in found_nothing a.d a.copies.now a.shapes.now a.family.now a.members.now c.in-None.is

pub returns-in-Some : goal.returns-in-Some
returns-in-Some c =
    let a = c.args in
    found_dest a.d _ a.copies.now a.shapes.now a.family.now _ a.members.now _ c.family-found.result c.in-Some.is c.byte_at-shape.ensures c.family-found.ensures
