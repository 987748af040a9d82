use mathlib.Core.Path.{sym, ◌∙◌}
use Rattle.std.proofs.Common.{rules}
use Rattle.shelf.specs.Agrees.{agrees}
use Rattle.shelf_reason1.proofs.Whole.{block_fail, block_end}
use Rattle.shelf_reason1.proofs.block_agrees.Goals as goal

pub returns-then-not-each_slot : goal.returns-then-not-each_slot
returns-then-not-each_slot c =
    let e = c.each_slot.ensures agrees (λ slot r l h. search rules) in
    block_fail c.args.code c.args.k.0 (λ τ ks d h. sym c.if-not-each_slot.true ∙ e τ ks d h)

pub returns : goal.returns
returns c =
    let e = c.each_slot.ensures agrees (λ slot r l h. search rules) in
    block_end c.args.code c.args.k.0 c.last_slot.ensures (λ τ ks d h. sym c.if-not-each_slot.false ∙ e τ ks d h) c.end_agrees.ensures
