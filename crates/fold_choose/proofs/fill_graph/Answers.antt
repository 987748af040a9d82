use Rattle.std.proofs.Common.{arith}
use mathlib.Core.Path.{sym}
use Rattle.fold_choose.proofs.EachBlock.{edges_fit}
use Rattle.fold_choose.proofs.fill_graph.Goals as goal

pub returns : goal.returns
returns c =
    let a = c.args in
    λ τ all g f st room. c.scan_block.ensures a.settings τ all st.stands st.counted f
    (record { next = sym g.values; few = omega (arith, g.values, g.few); room = room })
    (c.fill_structs.ensures τ all g st.stands st.counted st.few)
    (edges_fit a.settings τ a.values.cross.now a.code a.slots all st)
