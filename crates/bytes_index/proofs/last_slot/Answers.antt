use native.Mathlib.Omega.{arith}
use Rattle.bytes_index.proofs.Laws.{last_found}
use Rattle.bytes_index.proofs.last_slot.Goals as goal

pub returns : goal.returns
returns c = λ b s ks a h. omega (arith, last_found c.args.facts.now c.args.k.0 c.number.ensures b s ks a h)
