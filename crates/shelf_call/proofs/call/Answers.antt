use mathlib.Core.Path.{ap, ◌∙◌, sym}
use Prim.Native.Nat.{◌+◌, ◌*◌}
use Rattle.shelf_field.proofs.Lines.{and_both}
use Rattle.shelf_call.proofs.Calls.{arguments_differ}
use Rattle.shelf_call.proofs.Listed.{call_here}
use mathlib.Core.Bool.{◌&&◌}
use Rattle.shelf.specs.Agrees.{dests_fit}
use Rattle.shelf_call.proofs.call.Goals as goal

pub returns-then-byte_at-arguments : goal.returns-then-byte_at-arguments
returns-then-byte_at-arguments c = λ τ seen i n g e.
    let a = c.args in
    let d = c.behind-dests.ensures in
    let l = c.behind-arguments.ensures in
    (call_here a.typing.code.bounds a.t.now seen τ c.behind-dests.result.count _ c.behind-arguments.result.count c.values_end-e.result d.many
    (ap (λ m. m + 2 * c.behind-dests.result.count + 2) d.place) l.many
    (rw l.place at c.values_end-e.ensures.0) (λ ds xs ps rs ids hd vals hx tys hp rets hr. sym (ap (λ z. z && dests_fit τ ds rs) (arguments_differ τ xs ps
    (λ z. c.if-byte_at-arguments.true (c.byte_at.ensures ∙ sym hp ∙ sym z ∙ hx)))))).each i n e

pub returns : goal.returns
returns c = λ τ seen i n g e.
    let a = c.args in
    let d = c.behind-dests.ensures in
    let l = c.behind-arguments.ensures in
    (call_here a.typing.code.bounds a.t.now seen τ c.behind-dests.result.count _ c.behind-arguments.result.count c.values_end-e.result d.many
    (ap (λ m. m + 2 * c.behind-dests.result.count + 2) d.place) l.many
    (rw l.place at c.values_end-e.ensures.0) (λ ds xs ps rs ids hd vals hx tys hp rets hr. let w = sym c.byte_at.ensures ∙ c.if-byte_at-arguments.false in
    let rets' = rw w at rets in
    and_both (c.arguments_fit-given.ensures τ xs ps g (rw (l.bytes, l.place) vals) hx (rw l.bytes tys) (hp ∙ w))
    (c.dests_fit-had.ensures _ _ τ ds rs g (rw (d.bytes, d.place) ids) hd (rw d.bytes rets') hr))).each i n e
