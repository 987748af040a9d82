use Rattle.mir.specs.Kind.{number_of_kind}
use Rattle.shelf.specs.Agrees.{agrees}
use Rattle.shelf_reason1.proofs.Whole.{slot_told, kind_typed}
use Rattle.std.proofs.Common.{[]}
use Rattle.shelf_reason1.proofs.one_agrees.Goals as goal

pub returns-in-Some : goal.returns-in-Some
returns-in-Some c =
    let a = c.args in
    λ τ i g w. slot_told a.code a.slot c.instruction.ensures c.own_fields-t.ensures c.in-Some.ensures i w (λ k m.
    kind_typed c.typing.result a.code c.typing.ensures.code c.typing.ensures.recorded τ c.own_fields-t.result.now (number_of_kind c.in-Some.kind) c.agrees.ensures [] k i.kind m g)
