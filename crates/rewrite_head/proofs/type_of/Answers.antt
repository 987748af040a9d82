use Rattle.std.proofs.Common.{arith}
use Rattle.rewrite_head.proofs.Bits.{new_type, no_type}
use Rattle.rewrite_head.proofs.type_of.Goals as goal

pub returns-then-k-many : goal.returns-then-k-many
returns-then-k-many c =
    let l = c.if-v-next.false in
    let m = c.if-k-many.true in
    λ rs ts h. rw c.number.ensures (new_type h c.args.v _ (omega (arith, l)) (omega (arith, m)))

pub returns : goal.returns
returns c =
    let l = c.if-v-next.false in
    let m = c.if-k-many.false in
    λ rs ts h. no_type h c.args.v (omega (arith, l, m))
