use Rattle.std.proofs.Common.{◌∙◌, ap, sym, arith}
use Rattle.bytes_wire.specs.Number.{at16}
use Rattle.bytes_laws.specs.WellFormed.{Wide}
use Rattle.mir.specs.declared.Value.{Value}
use Rattle.rewrite_patch.proofs.Whole.{base_is, value_is}
use Rattle.rewrite_patch.proofs.reading.Goals as goal

pub returns-then-is_base : goal.returns-then-is_base
returns-then-is_base c = λ i k l.
    let a = c.args in
    let w : Wide a.code.bounds = record { types = omega arith; next = omega arith; blocks = omega arith; list = omega arith; projections = omega arith } in
    ap (λ z. Value.Operand (record { 0 = z })) (c.u16_at.ensures ∙ ap (λ s. at16 s c.reading_place-place.result) c.instruction-s.ensures)
    ∙ base_is a.code a.slot i k a.j c.reading_place-place.result l (sym c.is_base.ensures ∙ c.if-is_base.true) w (c.reading_place-place.ensures.places i k l)

pub returns : goal.returns
returns c = λ i k l.
    let a = c.args in
    let w : Wide a.code.bounds = record { types = omega arith; next = omega arith; blocks = omega arith; list = omega arith; projections = omega arith } in
    c.value_at.ensures _
    (rw (c.instruction-s.ensures, c.saturating_sub.ensures)
    (value_is a.code a.slot i k a.j c.reading_place-place.result l (sym c.is_base.ensures ∙ c.if-is_base.false) w (c.reading_place-place.ensures.places i k l)))
