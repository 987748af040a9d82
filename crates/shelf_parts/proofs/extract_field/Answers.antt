use mathlib.Core.Path.{ap, ◌∙◌}
use Rattle.mir.specs.Lookup.{row_of}
use Rattle.bytes_struct.specs.FindField.{field_type_of}
use Rattle.rewrite.specs.Rebuild.{return_type}
use Rattle.shelf_field.proofs.Single.{name_read}
use Rattle.shelf_parts.proofs.Inside.{extract_field_agrees}
use Rattle.shelf_parts.proofs.extract_field.Goals as goal

pub returns : goal.returns
returns c = λ τ seen i n g e.
    (extract_field_agrees c.args.typing.code.bounds c.args.t.now seen τ c.value_end-e.ensures.0 (λ d x k y p q h u. let o = return_type τ x in
    c.taken_out.ensures τ d y (field_type_of (row_of τ o) k) g p u
    (c.field_type-part.ensures τ o g.known.rows g.rows (c.operand_type-from.ensures _ _ τ x g q) ∙ ap (field_type_of (row_of τ o)) (name_read c.u16_at.ensures h)))).each i n e
