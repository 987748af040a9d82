use Rattle.std.proofs.Common.{◌∙◌, rules, ◌||◌, not}
use Rattle.std.proofs.lemmas.Iterator.Search.{all_from_yields_List}
use mathlib.Core.Path.{ap}
use lib.Dec.{eqb}
use Rattle.fold_climb.specs.Edges.{tuples_climb}
use Rattle.fold_climb.specs.Scanned.{sight_of, child_in, parent_in, of_tuple, tuples_down}
use Rattle.fold_climb.specs.Decided.{climbs}
use Rattle.fold_climb.proofs.tuple_parents.Goals as goal
use Rattle.fold_climb.proofs.Decide.{counts_down, all_tuples}

pub returns : goal.returns
returns c =
    let a = c.args in
    let g = a.view.graph.now in
    let n = c.edge_count.result in
    let can = climbs (sight_of a.view.shapes.now g) in
    all_from_yields_List (λ k. not (eqb (child_in g k) a.v.0) || (not (of_tuple g k) || can (parent_in g k))) _ _ _ c.all.ensures.ran
    (counts_down n c.rev.ensures.source) (λ x b q k. search rules)
    ∙ all_tuples can a.v.0 g n ∙ ap (λ m. tuples_climb can a.v.0 (tuples_down g m)) c.edge_count.ensures
