use mathlib.Core.Path.{ap, ◌∙◌, sym}
use Rattle.mir.specs.Lookup.{row_of}
use Rattle.rewrite.specs.Rebuild.{return_type}
use Rattle.shelf_types.specs.Types.{shaped_part}
use Rattle.shelf_parts.proofs.Inside.{extract_tuple_agrees}
use Rattle.shelf_parts.proofs.extract_tuple.Goals as goal

pub returns : goal.returns
returns c = λ τ seen i n g e.
    (extract_tuple_agrees c.args.typing.code.bounds c.args.t.now seen τ c.value_end-e.ensures.0 (λ d x k y p q h u. let o = return_type τ x in
    c.taken_out.ensures τ d y (shaped_part (row_of τ o) 1 k) g p u
    (c.shaped_part-part.ensures τ o g.known.rows g.rows (c.operand_type-from.ensures _ _ τ x g q) ∙ ap (shaped_part (row_of τ o) 1) (c.u32_at-k.ensures ∙ sym h)))).each i n e
