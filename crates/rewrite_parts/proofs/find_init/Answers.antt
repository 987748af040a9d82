use Rattle.std.proofs.Common.{◌∙◌, sym}
use Rattle.rewrite_parts.proofs.ByName.{seeking, sought_more, sought_found, sought_none}
use Rattle.rewrite_parts.proofs.find_init.Goals as goal

pub loop-i-init : goal.loop-i-init
loop-i-init c = seeking _ _ _ _

pub returns-then-u16_at-name : goal.returns-then-u16_at-name
returns-then-u16_at-name c =
    λ next fs v l. sought_found c.loop-i.invariant next fs v l c.loop-i-test.true (sym c.u16_at.ensures ∙ c.if-u16_at-name.true)

pub loop-i-preserved : goal.loop-i-preserved
loop-i-preserved c =
    let e = c.value_end-here.ensures in
    sought_more c.loop-i.invariant c.loop-i-test.true (λ e. c.if-u16_at-name.false (c.u16_at.ensures ∙ e)) e.0 e.1

pub returns : goal.returns
returns c = λ next fs v l. sought_none c.loop-i.invariant next fs v l c.loop-i-test.false
