use Rattle.pass_families.proofs.Marked.{listing_on, listing_past, listed}
use Rattle.pass_families.proofs.list_members.Goals.{then-marked, else-marked}
use Rattle.pass_families.proofs.list_members.Goals as goal

pub loop-v-preserved : goal.loop-v-preserved
loop-v-preserved c =
    elim c.if-marked.branch [
      | then-marked w ↦ rw (w.line-is, w.n-is) (listing_on _ _ _ _ _ c.loop-v.invariant c.loop-v-test.true w.if-marked.true)
      | else-marked w ↦ rw (w.line-is, w.n-is) (listing_past _ _ _ _ _ c.loop-v.invariant c.loop-v-test.true w.if-marked.false)
    ]

pub returns-clause-listed : goal.returns-clause-listed
returns-clause-listed c = listed _ _ _ _ _ c.loop-v.invariant c.loop-v-test.false
