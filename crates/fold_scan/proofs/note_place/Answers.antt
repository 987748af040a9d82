use mathlib.Core.Path.{sym, ◌∙◌}
use Rattle.fold_scan.proofs.Graph.{place_barred, place_kept}
use Rattle.fold_scan.proofs.note_place.Goals as goal

pub returns-then-varies : goal.returns-then-varies
returns-then-varies c =
    let a = c.args in
    place_barred a.code a.slot a.graph.now c.instruction.result.now
    c.instruction.ensures _ c.projection.ensures (sym c.varies.ensures ∙ c.if-varies.true) _ c.read.ensures _ c.bar.ensures

pub returns-else-varies : goal.returns-else-varies
returns-else-varies c =
    let a = c.args in
    place_kept a.code a.slot a.graph.now c.instruction.result.now
    c.instruction.ensures _ c.projection.ensures (sym c.varies.ensures ∙ c.if-varies.false)
