use Rattle.mir.specs.Lookup.{row_of}
use Rattle.mir.specs.Parts.{part_type}
use Rattle.shelf_list.proofs.fn.all_fit.each_passes+arg3.Goals as goal

pub returns : goal.returns
returns c = λ τ o x g e h. c.value_fits.ensures τ x (part_type (row_of τ o) c.args.i) g h (c.part_type-part.ensures τ o g.known.rows g.rows e)
