use Rattle.std.proofs.Common.{◌∙◌, sym}
use Rattle.rewrite_descent.proofs.Whole.{type_below, row_stands, begin_looped, begin_clash, begin_goes}
use Rattle.rewrite_descent.proofs.begin.Goals as goal

pub returns-then-at-clause-begins : goal.returns-then-at-clause-begins
returns-then-at-clause-begins c = λ k τ S tracked xs e o.
    begin_looped c.args.code τ S c.args.build xs e.ground o _ k (sym c.at.ensures ∙ c.if-at.true)

pub returns-then-clashes_at-clause-begins : goal.returns-then-clashes_at-clause-begins
returns-then-clashes_at-clause-begins c = λ k τ S tracked xs e o.
    let z = c.args.build in
    let l = row_stands _ _ _ z.value xs c.rows.ensures e.rep o.parts c.row-places.ensures.parts_stand in
    begin_clash c.args.code τ S z xs e.ground o _ _ (sym c.at.ensures ∙ c.if-at.false)
    (c.clashes_at.ensures _ τ e.ground.bytes e.ground.known.rows (type_below c.args.code τ S z xs e.ground o) xs l) c.if-clashes_at.true

pub returns-clause-begins : goal.returns-clause-begins
returns-clause-begins c = λ k τ S tracked xs e o.
    let z = c.args.build in
    let l = row_stands _ _ _ z.value xs c.rows.ensures e.rep o.parts c.row-places.ensures.parts_stand in
    let b = type_below c.args.code τ S z xs e.ground o in
    begin_goes c.args.code τ S z xs e.ground o _ _ _ _ (sym c.at.ensures ∙ c.if-at.false)
    (c.clashes_at.ensures _ τ e.ground.bytes e.ground.known.rows b xs l) c.if-clashes_at.false l
    (c.kept_count.ensures.of_table _ τ e.ground.bytes e.ground.known.rows b) c.kept_count.ensures.upper_bound
