use Rattle.std.proofs.Common.{refl}
use Rattle.rewrite_arms.proofs.Actions.{struct_keeps}
use Rattle.rewrite_arms.proofs.Sources.{not_struct}
use Rattle.rewrite_arms.proofs.Structs.{parts_other, struct_planned}
use Rattle.rewrite_arms.proofs.plan_struct.Goals as goal

pub returns-in-Struct : goal.returns-in-Struct
returns-in-Struct c =
    λ p e τ S stay fs g d v l.
    struct_planned _ _ fs _ g d v l
    (rw e (c.struct_type-t.ensures c.args.code.bounds c.args.code.bytes.now c.args.code.facts.now τ (rw c.recorded.ensures g) (rw e at d)))
    (c.in-Struct.ensures _ τ.rows g.known.rows g.rows) refl

pub returns-in_default : goal.returns-in_default
returns-in_default c =
    λ p e τ S stay fs g d v l.
    struct_keeps _
    (parts_other τ _ fs _ _ _
    (rw e (c.struct_type-t.ensures c.args.code.bounds c.args.code.bytes.now c.args.code.facts.now τ (rw c.recorded.ensures g) (rw e at d)))
    (c.type_shape.ensures _ τ.rows g.known.rows g.rows) (not_struct _ c.in_default.not-Struct))
