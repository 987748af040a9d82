use Rattle.std.proofs.Common.{[]}
use Rattle.bytes_wire.specs.Parse.{map_parse, later}
use Rattle.bytes_wire.specs.Number.{number_of}
use Rattle.bytes_wire.specs.Value.{value_of}
use Rattle.bytes_field.specs.Walk.{walk_before, uses_value}
use Rattle.bytes_field.proofs.read_projection.Goals as goal
use Rattle.bytes_wire.proofs.Numbered.{kind_is}
use Rattle.bytes_field.specs.ProjectionKind.{number_of_projection_kind}
use mathlib.Core.Path.{ap, ◌∙◌}
use native.Mathlib.Omega.{arith}
use Rattle.std.proofs.lemmas.List.{take_rest}
use Rattle.bytes_wire.proofs.Laws.{size_map, size_number, size_value}
use Rattle.bytes_field.proofs.Laws.{bytes_within}
use Rattle.bytes_field.proofs.Atom.{no_kind, index_kind, name_kind, tuple_kind_lem, bad_kind}

pub returns-in_default : goal.returns-in_default
returns-in_default c = λ seen. let a = c.args in rw c.at.ensures (no_kind a.next (walk_before seen a.buffer.now a.before) a.s.now c.in_default.len_below)

pub further-requires : goal.further-requires
further-requires c = let a = c.args in
    omega (
      arith,
      bytes_within a.s.now 1 c.read_value.result [] c.read_value.new.buffer
          (λ t. map_parse (uses_value (walk_before [] a.buffer.now a.before)) (value_of a.next t)) (take_rest a.s.now 1) (c.read_value.ensures [])
          (λ u. rw size_map (size_value a.next u)),
    )

pub further-requires-in-Field : goal.further-requires-in-Field
further-requires-in-Field c = let a = c.args in
    omega (
      arith,
      bytes_within a.s.now 1 c.read_number.result [] [] (λ t. map_parse (λ x. walk_before [] [] a.before) (number_of 2 t)) (take_rest a.s.now 1)
          (c.read_number.ensures [] []) (λ u. rw size_map (size_number 2 u)),
    )

pub further-requires-in-Tuple : goal.further-requires-in-Tuple
further-requires-in-Tuple c = let a = c.args in
    omega (
      arith,
      bytes_within a.s.now 1 c.read_number-in-Tuple.result [] [] (λ t. map_parse (λ x. walk_before [] [] a.before) (number_of 4 t)) (take_rest a.s.now 1)
          (c.read_number-in-Tuple.ensures [] []) (λ u. rw size_map (size_number 4 u)),
    )

pub returns-in-Index : goal.returns-in-Index
returns-in-Index c = λ seen. let a = c.args in
    index_kind a.next (walk_before seen a.buffer.now a.before) a.s.now c.in-len1-up.len_at_least (kind_is number_of_projection_kind c.in-Index.is c.in-Ok.ensures)
    (c.further.ensures seen c.read_value.new.buffer ∙ ap (later 1)
    (c.read_value.ensures seen ∙ ap (λ t. map_parse (uses_value (walk_before seen a.buffer.now a.before)) (value_of a.next t)) (take_rest a.s.now 1)))

pub returns-in-Field : goal.returns-in-Field
returns-in-Field c = λ seen. let a = c.args in
    name_kind a.next (walk_before seen a.buffer.now a.before) a.s.now c.in-len1-up.len_at_least (kind_is number_of_projection_kind c.in-Field.is c.in-Ok.ensures)
    (c.further-in-Field.ensures seen a.buffer.now ∙ ap (later 1)
    (c.read_number.ensures seen a.buffer.now ∙ ap (λ t. map_parse (λ x. walk_before seen a.buffer.now a.before) (number_of 2 t)) (take_rest a.s.now 1)))

pub returns-in-Tuple : goal.returns-in-Tuple
returns-in-Tuple c = λ seen. let a = c.args in
    tuple_kind_lem a.next (walk_before seen a.buffer.now a.before) a.s.now c.in-len1-up.len_at_least (kind_is number_of_projection_kind c.in-Tuple.is c.in-Ok.ensures)
    (c.further-in-Tuple.ensures seen a.buffer.now ∙ ap (later 1)
    (c.read_number-in-Tuple.ensures seen a.buffer.now ∙ ap (λ t. map_parse (λ x. walk_before seen a.buffer.now a.before) (number_of 4 t)) (take_rest a.s.now 1)))

pub returns-in_default-try_from : goal.returns-in_default-try_from
returns-in_default-try_from c = λ seen. let a = c.args in rw c.at-in_default-try_from.ensures (bad_kind a.next (walk_before seen a.buffer.now a.before) a.s.now c.in-len1-up.len_at_least c.in_default-try_from.ensures)
