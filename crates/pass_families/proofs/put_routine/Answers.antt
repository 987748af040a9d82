use Rattle.mir.specs.Lookup.{types_in}
use Rattle.pass_input.proofs.Accepted.{next_few, coded}
use Rattle.pass_families.proofs.put_routine.Goals as goal

pub returns-clause-written : goal.returns-clause-written
returns-clause-written c =
    λ a.
    let g = (coded a).ground in
    let n = next_few a in
    c.put_blocks.ensures.written _ a _
    (c.value_shapes.ensures c.args.code.bounds.list (types_in a.routine) (rw (c.typing.ensures.code, c.typing.ensures.recorded) g.known) (rw c.typing.ensures.code g.rows) (rw c.typing.ensures.code g.values) (rw c.typing.ensures.code n) (rw c.typing.ensures.code n))
