use Rattle.std.proofs.Common.{ap, ◌∙◌, Some, rules}
use Rattle.bytes_wire.proofs.Numbered.{kind_is}
use Rattle.bytes_field.specs.ProjectionKind.{number_of_projection_kind}
use Rattle.bytes_operands.proofs.Loops.{step_index_lem, step_field, step_tuple}
use Rattle.mir.specs.declared.Projection.{Projection}
use Rattle.bytes_field.specs.Decode.{projection_of}
use Rattle.bytes_operands.proofs.step_at.Goals as goal

pub returns-in-Ok-Index : goal.returns-in-Ok-Index
returns-in-Ok-Index c = λ p n e.
    let a = c.args in
    step_index_lem a.next c.behind-u.result.now (ap (projection_of a.next) c.behind-u.ensures ∙ e) (kind_is number_of_projection_kind c.in-Ok-Index.field-0-is (c.in-Ok-Index.ensures ∙ c.byte_at.ensures))
    (λ y m f. let h = c.found_at.ensures y m f in search rules)

pub returns-in-Ok-Field : goal.returns-in-Ok-Field
returns-in-Ok-Field c = λ p n e.
    let a = c.args in
    ap (λ z. Some (Projection.Field (record { 0 = z }))) c.u16_at.ensures
    ∙ step_field a.next c.behind-u.result.now (ap (projection_of a.next) c.behind-u.ensures ∙ e) (kind_is number_of_projection_kind c.in-Ok-Field.field-0-is (c.in-Ok-Field.ensures ∙ c.byte_at.ensures))

pub returns-in-Ok-Tuple : goal.returns-in-Ok-Tuple
returns-in-Ok-Tuple c = λ p n e.
    let a = c.args in
    ap (λ z. Some (Projection.Tuple z)) c.u32_at.ensures
    ∙ step_tuple a.next c.behind-u.result.now (ap (projection_of a.next) c.behind-u.ensures ∙ e)
    (λ z. search rules) (λ z. search rules)
