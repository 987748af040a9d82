use mathlib.Core.Path.{ap, ◌∙◌, sym}
use Rattle.mir.specs.Lookup.{row_of}
use Rattle.mir.specs.Parts.{part_count, counts}
use Rattle.shelf.specs.Fits.{parts_fit}
use Rattle.shelf_field.proofs.Lines.{and_both}
use Rattle.shelf_list.proofs.parts_fit.Goals as goal

pub returns : goal.returns
unfolding parts_fit
returns c = λ τ o xs g e l h.
    and_both (c.has_parts-counted.ensures τ o g.known.rows g.rows e ∙ ap (counts (part_count (row_of τ o))) (sym h))
    (c.all_fit-all.ensures τ o xs g e l h)
