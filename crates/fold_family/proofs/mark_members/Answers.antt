use mathlib.Core.Path.{refl}
use Rattle.fold_family.proofs.Listed.{flag_again}
use Rattle.fold_family.proofs.mark_members.Goals as goal

pub loop-v-preserved : goal.loop-v-preserved
loop-v-preserved c =
    let a = c.args in
    let l = c.loop-v in
    flag_again a.members.now a.on a.marks.now l.marks l.v-index _ l.invariant refl c.put.ensures
