use Rattle.std.proofs.Common.{refl, sym, rules}
use Rattle.mir.specs.Lookup.{row_of, struct_fields_of}
use Rattle.bytes_struct.specs.FindField.{find_from, find_field, field_type_of}
use Rattle.shelf_types.proofs.Numbers.{part_of}
use Rattle.shelf_types.proofs.field_type.Goals as goal

pub returns-in_err-number : goal.returns-in_err-number
unfolding row_of field_type_of find_field struct_fields_of find_from
returns-in_err-number c = λ τ o a l e. rw (c.from_residual.ensures, sym (rw (c.in_err-number.was) at e)) refl

pub returns : goal.returns
unfolding row_of field_type_of
returns c = λ τ o a l e.
    let f = c.find_field.ensures _ τ.rows a l in
    rw (sym (rw (c.in_ok-number.was) at e), sym f) (part_of _ (λ x h. search rules) (λ h. search rules))
