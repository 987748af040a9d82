use Rattle.bytes_field.specs.Walk.{simple_walk, field_walk}
use Rattle.bytes_row.proofs.read_field.Goals as goal

pub returns-in-Dest : goal.returns-in-Dest
unfolding field_walk simple_walk
returns-in-Dest c = simp (c.read_defined.ensures c.args.buffer.now, c.in-Dest.is)

pub returns-in-Value : goal.returns-in-Value
unfolding field_walk simple_walk
returns-in-Value c = simp (c.read_value.ensures c.args.seen.now, c.in-Value.is)

pub returns-in-Type : goal.returns-in-Type
unfolding field_walk simple_walk
returns-in-Type c = simp (c.read_below.ensures c.args.seen.now c.args.buffer.now, c.in-Type.is)

pub returns-in-Name : goal.returns-in-Name
unfolding field_walk simple_walk
returns-in-Name c = simp (c.read_number.ensures c.args.seen.now c.args.buffer.now, c.in-Name.is)

pub returns-in-Number : goal.returns-in-Number
unfolding field_walk simple_walk
returns-in-Number c = simp (c.read_number-in-Number.ensures c.args.seen.now c.args.buffer.now, c.in-Number.is)

pub returns-in-Block : goal.returns-in-Block
unfolding field_walk simple_walk
returns-in-Block c = simp (c.read_below-in-Block.ensures c.args.seen.now c.args.buffer.now, c.in-Block.is)

pub returns-in-Place : goal.returns-in-Place
unfolding field_walk
returns-in-Place c = simp (c.read_place.ensures, c.in-Place.is)

pub returns-in-Binary : goal.returns-in-Binary
unfolding field_walk simple_walk
returns-in-Binary c = simp (c.read_operation.ensures c.args.seen.now c.args.buffer.now, c.in-Binary.is)

pub returns-in-Unary : goal.returns-in-Unary
unfolding field_walk simple_walk
returns-in-Unary c = simp (c.read_operation-in-Unary.ensures c.args.seen.now c.args.buffer.now, c.in-Unary.is)

pub returns-in-Values : goal.returns-in-Values
unfolding field_walk
returns-in-Values c = simp (c.read_list.ensures, c.in-Values.is)

pub returns-in-Types : goal.returns-in-Types
unfolding field_walk
returns-in-Types c = simp (c.read_list-in-Types.ensures, c.in-Types.is)

pub returns-in-Dests : goal.returns-in-Dests
unfolding field_walk
returns-in-Dests c = simp (c.read_list-in-Dests.ensures, c.in-Dests.is)

pub returns-in-Named : goal.returns-in-Named
unfolding field_walk
returns-in-Named c = simp (c.read_list-in-Named.ensures, c.in-Named.is)

pub returns-in-Sources : goal.returns-in-Sources
unfolding field_walk
returns-in-Sources c = simp (c.read_list-in-Sources.ensures, c.in-Sources.is)

pub returns-in-Returns : goal.returns-in-Returns
unfolding field_walk
returns-in-Returns c = simp (c.read_list-in-Returns.ensures, c.in-Returns.is)
