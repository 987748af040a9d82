use Rattle.std.proofs.Common.{rules}
use Rattle.shelf_marks.specs.Tests.{ordered_behind}
use Rattle.shelf_reason2.proofs.in_order.Goals as goal

pub returns : goal.returns
returns c = c.each_block.ensures (λ τ x. ordered_behind x.instructions) (λ k r l h. search rules)
