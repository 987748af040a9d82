use mathlib.Core.Path.{refl}
use Rattle.shelf_marks.proofs.Backwards.{behind_found}
use Rattle.shelf_reason2.proofs.behind_phis.Goals as goal

pub returns : goal.returns
returns c =
    let a = c.args in
    let n = c.phi_count-n in
    behind_found a.code a.k.0 c.block_slots-slots.result c.block_slots-slots.ensures _ n.result n.ensures.few refl refl (n.ensures.counted a.code.bounds a.code.bytes.now)
