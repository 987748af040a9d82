use Rattle.std.proofs.Common.{[], arith}
use Rattle.bytes_wire.specs.Number.{number_of}
use Rattle.bytes_wire.specs.Parse.{map_parse}
use Rattle.bytes_wire.proofs.Laws.{size_map, size_number}
use Rattle.bytes_field.specs.Walk.{walk_before}
use Rattle.bytes_field.proofs.Laws.{bytes_within}
use Rattle.bytes_block.proofs.then_number.Goals as goal

pub further-requires : goal.further-requires
further-requires c =
    let a = c.args in
    omega (
      arith,
      bytes_within a.s.now a.p.size c.read_number.result [] [] (λ t. map_parse (λ x. walk_before [] [] a.p) (number_of a.width t)) c.behind-t.ensures
          (c.read_number.ensures [] []) (λ u. rw size_map (size_number a.width u)),
    )
