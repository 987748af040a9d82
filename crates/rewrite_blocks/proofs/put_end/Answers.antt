use Prim.Native.Nat.{◌+◌}
use mathlib.Core.Path.{ap, ◌∙◌, sym}
use borrow.Author.Tests.{eqb-true, eqb-false}
use Rattle.rewrite.specs.Run.{finish}
use Rattle.rewrite_parts.specs.Rows.{fresh_in}
use Rattle.rewrite_blocks.proofs.Ends.{return_end, other_end}
use Rattle.rewrite_blocks.proofs.put_end.Goals as goal

pub returns-in-First-clause-end_put : goal.returns-in-First-clause-end_put
returns-in-First-clause-end_put c =
    let a = c.args in
    λ σ τ S used t dropped ed g rep line bd. return_end a.site.code a.site.slot t g.bytes line _ _
    c.slot_bytes-part.ensures c.byte_at.ensures _ (eqb-true _ 3 (sym c.is_return.ensures ∙ c.if-is_return.true))
    (λ xs z y. c.put_return.ensures.return_put σ τ S used xs dropped (finish σ τ S (a.site.code.bounds.next + a.p.fresh) t) (ed ∙ c.in-First.is) g rep y
    (ap (finish σ τ S (a.site.code.bounds.next + a.p.fresh)) z) bd)

pub returns-in-Second-clause-end_put : goal.returns-in-Second-clause-end_put
returns-in-Second-clause-end_put c =
    let a = c.args in
    λ σ τ S used t dropped ed g rep line bd. return_end a.site.code a.site.slot t g.bytes line _ _
    c.slot_bytes-part.ensures c.byte_at.ensures _ (eqb-true _ 3 (sym c.is_return.ensures ∙ c.if-is_return.true))
    (λ xs z y. c.put_return_behind.ensures.return_put σ τ S used xs dropped (finish σ τ S (a.site.code.bounds.next + a.p.fresh) t) (ed ∙ c.in-Second.is) g rep y
    (ap (finish σ τ S (a.site.code.bounds.next + a.p.fresh)) z) bd)

pub returns-clause-end_put : goal.returns-clause-end_put
returns-clause-end_put c =
    let a = c.args in
    λ σ τ S used t dropped ed g rep line bd. other_end a.site.code a.site.slot t g.bytes line _ _
    c.slot_bytes-part.ensures c.byte_at.ensures σ τ S (a.site.code.bounds.next + a.p.fresh) a.out.now _ (fresh_in a.work.now) dropped a.p _
    (eqb-false _ 3 (sym c.is_return.ensures ∙ c.if-is_return.false)) g.listed c.put_part.ensures.part_put
