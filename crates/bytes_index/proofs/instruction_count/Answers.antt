use native.Mathlib.Omega.{arith}
use Rattle.bytes_index.proofs.instruction_count.Goals as goal

pub returns : goal.returns
returns c = λ b s ks a h. omega (arith, c.last_slot.ensures b s ks a h, c.first_slot.ensures)
