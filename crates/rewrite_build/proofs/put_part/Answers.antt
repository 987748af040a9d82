use Rattle.std.proofs.Common.{arith}
use Rattle.rewrite_build.proofs.Writing.{part_at, part_same, part_fresh, part_past}
use Rattle.rewrite_build.proofs.put_part.Goals as goal

pub returns-then-parts-k-clause-of_parts : goal.returns-then-parts-k-clause-of_parts
returns-then-parts-k-clause-of_parts c = λ xs r l. rw (part_past c.args.parts.nums.now xs c.args.k (omega (arith, l, c.if-parts-k.true))) c.put_value.ensures

pub returns-then-fresh-ne0-clause-of_parts : goal.returns-then-fresh-ne0-clause-of_parts
returns-then-fresh-ne0-clause-of_parts c =
    λ xs r l.
    rw (part_fresh c.args.parts.nums.now xs c.args.k _ (omega (arith, l, c.if-parts-k.false)) c.number-fresh.ensures c.if-fresh-ne0.true) c.put_value-then-fresh-ne0.ensures

pub returns-clause-of_parts : goal.returns-clause-of_parts
returns-clause-of_parts c =
    λ xs r l.
    let k = c.if-parts-k.false in
    rw (part_same c.args.parts.nums.now xs c.args.k _ (omega (arith, k, l)) c.number-fresh.ensures c.if-fresh-ne0.false)
    (c.put_value_at.ensures.writes _ (part_at _ _ _ _ _ xs r c.place-at.ensures (omega (arith, k, l))))
