use Rattle.std.proofs.Common.{ap, ◌∙◌}
use lib.ListN.{length}
use Rattle.rewrite_keep.proofs.value_count.Goals as goal

pub returns-in-Instruction : goal.returns-in-Instruction
returns-in-Instruction c = rw c.in-Instruction.is (λ xs y. (c.reading_count.ensures.counts y.instruction y.kept ∙ ap length y.values, c.reading_count.ensures.few y.instruction y.kept))

pub returns-in-Return : goal.returns-in-Return
returns-in-Return c = rw c.in-Return.is (λ xs y. c.return_count.ensures xs y)
