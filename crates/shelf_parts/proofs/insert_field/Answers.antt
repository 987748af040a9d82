use mathlib.Core.Path.{ap, ◌∙◌}
use mathlib.Core.Option.{some}
use Rattle.mir.specs.Lookup.{row_of}
use Rattle.bytes_struct.specs.FindField.{field_type_of}
use Rattle.shelf_field.proofs.Single.{name_read}
use Rattle.shelf_parts.proofs.Inside.{insert_field_agrees}
use Rattle.shelf_parts.proofs.insert_field.Goals as goal

pub returns : goal.returns
returns c = λ τ seen i n g e.
    (insert_field_agrees c.args.typing.code.bounds c.args.t.now seen τ c.value_end-e.ensures.0 c.value_end.ensures.0 (λ d x k z y p q h r u.
    let w = c.type_at-y.ensures y u in
    c.put_in.ensures τ d x z y (field_type_of (row_of τ (some y)) k) g p q r w
    (c.field_type-part.ensures τ (some y) g.known.rows g.rows w ∙ ap (field_type_of (row_of τ (some y))) (name_read c.u16_at.ensures h)))).each i n e
