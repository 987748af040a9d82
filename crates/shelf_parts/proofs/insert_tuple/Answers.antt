use mathlib.Core.Path.{ap, ◌∙◌, sym}
use mathlib.Core.Option.{some}
use Rattle.mir.specs.Lookup.{row_of}
use Rattle.shelf_types.specs.Types.{shaped_part}
use Rattle.shelf_parts.proofs.Inside.{insert_tuple_agrees}
use Rattle.shelf_parts.proofs.insert_tuple.Goals as goal

pub returns : goal.returns
returns c = λ τ seen i n g e.
    (insert_tuple_agrees c.args.typing.code.bounds c.args.t.now seen τ c.value_end-e.ensures.0 c.value_end.ensures.0 (λ d x k z y p q h r u.
    let w = c.type_at-y.ensures y u in
    c.put_in.ensures τ d x z y (shaped_part (row_of τ (some y)) 1 k) g p q r w
    (c.shaped_part-part.ensures τ (some y) g.known.rows g.rows w ∙ ap (shaped_part (row_of τ (some y)) 1) (c.u32_at-k.ensures ∙ sym h)))).each i n e
