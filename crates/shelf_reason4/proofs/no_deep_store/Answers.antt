use mathlib.Core.Path.{◌∙◌}
use Rattle.std.proofs.Common.{rules}
use Rattle.shelf_marks.proofs.Storing.{shallow_all}
use Rattle.shelf_marks.specs.Tests.{shallow_in, each_kind}
use Rattle.shelf_reason4.proofs.no_deep_store.Goals as goal

pub returns : goal.returns
returns c =
    let dropped = c.args.dropped.now in
    λ ds h τ ks e. c.each_block.ensures (λ τ x. each_kind (shallow_in dropped) x.instructions) (λ k r l p. search rules) τ ks e ∙ shallow_all dropped ds h ks
