use native.Mathlib.Omega.{arith}
use Rattle.bytes_index.proofs.Rising.{roomy}
use Rattle.bytes_index.proofs.block_slots.Goals as goal

pub returns-then-first-count-gt-SLOTS : goal.returns-then-first-count-gt-SLOTS
returns-then-first-count-gt-SLOTS c = λ b s ks code l.
    absurd (omega (arith, roomy code c.args.k.0 l, c.first_slot-first.ensures, c.instruction_count-count.ensures b s ks code l, c.if-first-count-gt-SLOTS.true))

pub returns : goal.returns
returns c = λ b s ks code l. (c.first_slot-first.ensures, c.instruction_count-count.ensures b s ks code l)
