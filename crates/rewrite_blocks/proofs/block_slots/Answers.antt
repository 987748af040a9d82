use mathlib.Core.Path.{refl}
use native.Mathlib.Omega.{arith}
use Rattle.rewrite_blocks.proofs.Laying.{slots_found}
use Rattle.rewrite_blocks.proofs.block_slots.Goals as goal

pub returns : goal.returns
returns c = slots_found _ _ c.block_slots-slots.result _ c.block_slots-slots.ensures refl (omega arith, λ h. omega (arith, c.min.ensures))
