use Rattle.std.proofs.Common.{◌∙◌, ap, refl, rules}
use Rattle.bytes_wire.specs.Parse.{and_then, map_parse}
use Rattle.bytes_wire.specs.Value.{value_of}
use Rattle.bytes_wire.proofs.Laws.{and_nothing, passed_as}
use Rattle.bytes_field.specs.Walk.{atom_walk, simple_walk, scanned, uses_value}
use Rattle.bytes_row.proofs.read_element.Goals as goal

pub returns-in-Values : goal.returns-in-Values
unfolding atom_walk simple_walk
returns-in-Values c = simp (c.read_value.ensures c.args.seen.now, c.in-Values.is, and_nothing)

pub returns-in-Types : goal.returns-in-Types
unfolding atom_walk simple_walk
returns-in-Types c = simp (c.read_below.ensures c.args.seen.now c.args.buffer.now, c.in-Types.is, and_nothing)

pub returns-in-Dests : goal.returns-in-Dests
unfolding atom_walk simple_walk
returns-in-Dests c = simp (c.read_defined.ensures c.args.buffer.now, c.in-Dests.is, and_nothing)

pub returns-in_err-read_number-in-Named : goal.returns-in_err-read_number-in-Named
unfolding atom_walk simple_walk
returns-in_err-read_number-in-Named c =
    let a = c.args in
    let f = scanned a.seen.now a.buffer.now in
    passed_as f f (λ d. and_then a.s.now d (λ v t. atom_walk a.b 2 v t)) (λ k o. refl) (search rules) (c.read_number.ensures a.seen.now a.buffer.now)
    ∙ simp c.in-Named.is

pub returns-in_ok-read_number-in-Named : goal.returns-in_ok-read_number-in-Named
unfolding atom_walk simple_walk
returns-in_ok-read_number-in-Named c =
    let a = c.args in
    c.then_value.ensures a.seen.now
    ∙ ap (λ d. and_then a.s.now d (λ w t. map_parse (uses_value w) (value_of a.b.next t))) (c.in_ok-read_number-in-Named.ensures a.seen.now a.buffer.now)
    ∙ simp c.in-Named.is

pub returns-in_err-read_below-in-Sources : goal.returns-in_err-read_below-in-Sources
unfolding atom_walk simple_walk
returns-in_err-read_below-in-Sources c =
    let a = c.args in
    let f = scanned a.seen.now a.buffer.now in
    passed_as f f (λ d. and_then a.s.now d (λ v t. atom_walk a.b 2 v t)) (λ k o. refl) (search rules) (c.read_below-in-Sources.ensures a.seen.now a.buffer.now)
    ∙ simp c.in-Sources.is

pub returns-in_ok-read_below-in-Sources : goal.returns-in_ok-read_below-in-Sources
unfolding atom_walk simple_walk
returns-in_ok-read_below-in-Sources c =
    let a = c.args in
    c.then_value-in-Sources.ensures a.seen.now
    ∙ ap (λ d. and_then a.s.now d (λ w t. map_parse (uses_value w) (value_of a.b.next t))) (c.in_ok-read_below-in-Sources.ensures a.seen.now a.buffer.now)
    ∙ simp c.in-Sources.is

pub returns-in-Projections : goal.returns-in-Projections
unfolding atom_walk simple_walk
returns-in-Projections c = simp (c.read_projection.ensures c.args.seen.now, c.in-Projections.is, and_nothing)
