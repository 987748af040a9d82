use Rattle.std.proofs.Common.{rules}
use Rattle.shelf_marks.specs.Tests.{shallow_in}
use Rattle.shelf_reason4.proofs.shallow_block.Goals as goal

pub returns : goal.returns
returns c = c.each_slot.ensures (λ τ. shallow_in c.args.dropped.now) (λ slot r l h. search rules)
