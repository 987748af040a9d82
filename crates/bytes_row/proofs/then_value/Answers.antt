use Rattle.std.proofs.Common.{[], arith}
use Rattle.bytes_wire.specs.Parse.{map_parse}
use Rattle.bytes_wire.proofs.Laws.{size_map, size_value}
use Rattle.bytes_field.specs.Walk.{walk_before, uses_value}
use Rattle.bytes_field.proofs.Laws.{bytes_within}
use Rattle.bytes_wire.specs.Value.{value_of}
use Rattle.bytes_row.proofs.then_value.Goals as goal

pub further-requires : goal.further-requires
further-requires c =
    let a = c.args in
    omega (
      arith,
      bytes_within a.s.now a.p.size c.read_value.result [] c.read_value.new.buffer
          (λ t. map_parse (uses_value (walk_before [] a.buffer.now a.p)) (value_of a.next t)) c.behind-t.ensures (c.read_value.ensures [])
          (λ u. rw size_map (size_value a.next u)),
    )
