use Rattle.std.proofs.Common.{rules}
use Rattle.shelf_marks.specs.Tests.{parts_clear}
use Rattle.shelf_reason3.proofs.parts_block.Goals as goal

pub returns : goal.returns
returns c = c.each_slot.ensures (λ τ. parts_clear c.args.marks.now) (λ slot r l h. search rules)
