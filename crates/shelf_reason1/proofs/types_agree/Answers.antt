use mathlib.Core.Path.{refl, ap, ◌∙◌, sym}
use Rattle.shelf_reason1.proofs.Whole.{routine_told, parameters_told}
use Rattle.std.proofs.Common.{false, ◌+◌, drop, replicate}
use Rattle.bytes_field.specs.Decode.{defineds_of}
use Rattle.mir.specs.Lookup.{types_in}
use Rattle.shelf.specs.Reads.{with_debug}
use Rattle.shelf_reason1.proofs.types_agree.Goals as goal

pub returns : goal.returns
returns c =
    let a = c.args in
    let seen = replicate a.code.bounds.next false in
    let l = c.behind.ensures in
    λ x n e d.
    let p = c.behind-t.ensures ∙ ap (λ q. drop (q + 6) a.code.bytes.now) c.number-behind.ensures in
    let w = parameters_told a.code.bounds c.behind-t.result.now seen x.parameters n (ap (defineds_of a.code.bounds.list a.code.bounds.next seen) p ∙ d) in
    routine_told with_debug x refl
    (c.all_typed-known.ensures a.code.bytes.now a.code.facts.now (types_in x) x.parameters (rw (c.typing-typing.ensures.code, c.typing-typing.ensures.recorded) e.ground) (rw (c.typing-typing.ensures.code, l.bytes, l.place) w.0) (w.1 ∙ sym l.many))
    (c.blocks_agree-fit.ensures (types_in x) x.blocks e)
