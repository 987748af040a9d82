use Rattle.std.proofs.Common.{◌∙◌}
use Rattle.mir.specs.Lookup.{row_of, is_tuple, is_array}
use Rattle.shelf.specs.Fits.{step_type}
use Rattle.shelf_types.proofs.Numbers.{same_step}
use Rattle.shelf_types.proofs.step_type.Goals as goal

pub returns-in-Index : goal.returns-in-Index
unfolding step_type is_array
returns-in-Index c = λ τ o a l e q h. c.shaped_part.ensures τ o a l e ∙ same_step (row_of τ o) (rw (c.in_ok-p.was, c.in-Index.is) at h)

pub returns-in-Field : goal.returns-in-Field
unfolding step_type
returns-in-Field c = λ τ o a l e q h. c.field_type.ensures τ o a l e ∙ same_step (row_of τ o) (rw (c.in_ok-p.was, c.in-Field.is) at h)

pub returns-in-Tuple : goal.returns-in-Tuple
unfolding step_type is_tuple
returns-in-Tuple c = λ τ o a l e q h. c.shaped_part-in-Tuple.ensures τ o a l e ∙ same_step (row_of τ o) (rw (c.in_ok-p.was, c.in-Tuple.is) at h)
