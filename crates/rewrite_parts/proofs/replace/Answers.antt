use Rattle.std.proofs.Common.{arith, ◌∙◌, ap, sym, ◌+◌, get_or}
use Rattle.rewrite_parts.proofs.Tables.{found_row, replaced_below}
use Rattle.rewrite_parts.proofs.Loops.{rep_replace}
use Rattle.rewrite_parts.proofs.replace.Goals as goal

pub returns-then-n-k-clause-replaced : goal.returns-then-n-k-clause-replaced
returns-then-n-k-clause-replaced c =
    λ next s S xs ys y r q b e f w.
    absurd (omega (arith, c.if-n-k.true, c.part_count-n.ensures.parts_counted next s _ _ S xs r e, replaced_below xs _ y f))

pub returns-clause-replaced : goal.returns-clause-replaced
returns-clause-replaced c =
    let a = c.args in
    let many = c.part_count-n.ensures in
    let from = c.place.ensures in
    λ next s S xs ys y r q b e f w.
    let l = many.parts_counted next s _ _ S xs r e in
    let held = found_row r a.v.0 e in
    let row = c.copy_row.ensures.row_copied (omega (arith, held.below, from)) (omega (arith, held.most, q)) in
    simp (c.set_row.ensures.placed, c.set_row.ensures.marked, c.set_place.ensures)
    (rep_replace a.d a.v a.k _ a.place r q b e f w (sym l) c.copy_row.ensures.grown
    (λ j h. row j h ∙ ap (λ m. get_or a.rows.now (m + j) 0) from) (omega (arith, c.if-n-k.false)))
