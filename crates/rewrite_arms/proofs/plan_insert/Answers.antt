use Rattle.std.proofs.Common.{arith, ◌<◌, length}
use Rattle.rewrite_arms.proofs.Actions.{no_parts, has, has_parts, insert_stays, insert_past, insert_replaces}
use Rattle.rewrite_arms.proofs.plan_insert.Goals as goal

pub returns-then-part_count-k : goal.returns-then-part_count-k
returns-then-part_count-k c =
    λ next s facts used S stay p y r d w. elim (has_parts (c.tracked_source.ensures next s _ _ S r) c.in-Some.is) [
      | has xs e f ↦
          insert_past _ _ y xs e (omega (arith, c.if-part_count-k.true, c.part_count.ensures.parts_counted next s _ _ S xs r f))
    ]

pub returns-in-None : goal.returns-in-None
returns-in-None c =
    λ next s facts used S stay p y r d w. insert_stays _ _ y (no_parts (c.tracked_source.ensures next s _ _ S r) c.in-None.is)

pub returns-else-part_count-k : goal.returns-else-part_count-k
returns-else-part_count-k c =
    λ next s facts used S stay p y r d w. elim (has_parts (c.tracked_source.ensures next s _ _ S r) c.in-Some.is) [
      | has xs e f ↦
          let k : c.args.k < length xs = omega (arith, c.if-part_count-k.false, c.part_count.ensures.parts_counted next s _ _ S xs r f) in
          insert_replaces d _ _ y _ xs e f k w
    ]
