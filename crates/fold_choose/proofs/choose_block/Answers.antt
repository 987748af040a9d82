use Rattle.std.proofs.Common.{arith}
use mathlib.Core.Bool.{false}
use lib.ListN.{length-replicate}
use Rattle.fold_choose.proofs.Buildless.{none_built}
use Rattle.fold_choose.proofs.choose_block.Goals as goal

pub returns-then-not-any_build-clause-decides_block : goal.returns-then-not-any_build-clause-decides_block
returns-then-not-any_build-clause-decides_block c =
    let a = c.args in
    λ τ all g f st room long j d l e. absurd
    (none_built a.code.bounds a.code.bytes.now a.code.facts.now a.slots.first c.end.result all
    (c.any_build.ensures c.if-not-any_build.true) st.stands (omega (arith, st.counted, c.end.ensures)) j d l e)

pub returns-clause-decides_block : goal.returns-clause-decides_block
returns-clause-decides_block c =
    let a = c.args in
    λ τ all g f st room long.
    c.decide_all.ensures.decides_all τ a.values.cross.now all st
    (record { eligible = a.values.eligible.now; facts = f; scanned = c.fill_graph.ensures τ all g f st room })
    (c.fill_looked.ensures a.settings τ all a.values.eligible.now g f st.stands st.counted st.few (omega (arith, length-replicate 128 false)))
    g.values g.few long
