use mathlib.Core.Path.{refl, ap, ◌∙◌, sym}
use mathlib.Core.Option.{some}
use lib.ListN.{get_or, drop}
use Rattle.mir.specs.Lookup.{row_of}
use Rattle.mir.specs.Parts.{part_count, counts}
use Rattle.shelf_field.proofs.Lines.{and_both}
use Rattle.shelf_build.proofs.Built.{make_struct_agrees}
use Rattle.shelf_build.proofs.Structs.{struct_no, struct_yes, rest_few, rest_shape, rest_fit, struct_names, struct_parts}
use Rattle.shelf_build.proofs.make_struct.Goals as goal

pub returns-then-not-has_parts : goal.returns-then-not-has_parts
returns-then-not-has_parts c = λ τ seen i n g e.
    (make_struct_agrees c.args.typing.code.bounds c.args.t.now seen τ c.behind-list.ensures.many (rw c.behind-list.ensures.place at c.values_end-e.ensures.0) (λ d fs y p q h u.
    let row = row_of τ (some y) in
    let many = c.has_parts.ensures τ (some y) g.known.rows g.rows (c.type_at-y.ensures y u) ∙ ap (counts (part_count row)) (sym h) in
    struct_no τ d fs y (rest_few τ fs row (sym many ∙ c.if-not-has_parts.true)))).each i n e

pub returns-then-not-has_shape : goal.returns-then-not-has_shape
returns-then-not-has_shape c = λ τ seen i n g e.
    (make_struct_agrees c.args.typing.code.bounds c.args.t.now seen τ c.behind-list.ensures.many (rw c.behind-list.ensures.place at c.values_end-e.ensures.0) (λ d fs y p q h u.
    struct_no τ d fs y (rest_shape τ fs (row_of τ (some y)) (sym (c.has_shape.ensures _ τ (some y) g (c.type_at-y.ensures y u)) ∙ c.if-not-has_shape.true)))).each i n e

pub returns : goal.returns
returns c = λ τ seen i n g e.
    let a = c.args in
    (make_struct_agrees a.typing.code.bounds a.t.now seen τ c.behind-list.ensures.many (rw c.behind-list.ensures.place at c.values_end-e.ensures.0) (λ d fs y p q h u.
    let w = c.type_at-y.ensures y u in
    let row = row_of τ (some y) in
    let many = c.has_parts.ensures τ (some y) g.known.rows g.rows w ∙ ap (counts (part_count row)) (sym h) in
    struct_yes τ d fs y (and_both (c.id_has-same.ensures _ _ τ d (some y) g p w) refl) (rest_fit τ fs row
    (sym many ∙ c.if-not-has_parts.false) (sym (c.has_shape.ensures _ τ (some y) g w) ∙ c.if-not-has_shape.false) (λ nm ss z k.
    c.fields_fit-fit.ensures τ (some y) fs ss g w (rw (c.behind-list.ensures.bytes, c.behind-list.ensures.place) q) h (struct_names _ _ _ _ τ y nm ss _ g.known.rows g.rows
    u.low (c.type_row-row.ensures ∙ ap (λ m. drop (get_or a.typing.code.facts.now m 0) a.typing.code.bytes.now) (c.u16_at.ensures ∙ sym u.told)) z)
    (k ∙ h) (struct_parts nm ss row z))))).each i n e
