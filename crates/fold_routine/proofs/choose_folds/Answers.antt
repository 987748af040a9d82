use Rattle.mir.specs.Lookup.{types_in}
use Rattle.std.proofs.lemmas.List.{take-replicate}
use Rattle.fold_routine.proofs.choose_folds.Goals as goal

pub returns : goal.returns
returns c =
    let a = c.args in
    λ r k fits l.
    let values = rw (c.typing.ensures.code, c.typing.ensures.recorded) at c.value_shapes.ensures in
    let f = values a.code.bounds.list (types_in r) k.ground.known k.ground.rows k.ground.values c.requires c.requires in
    c.choose_crossed.ensures r f (take-replicate a.code.bounds.next 256 _ c.requires) k fits l
