use Rattle.rewrite_descent.proofs.Whole.{stands_at}
use Rattle.rewrite_descent.proofs.part_place.Goals as goal

pub returns : goal.returns
returns c = λ next s tracked used S xs e i l.
    stands_at _ _ _ _ _ _ c.rows.ensures e i l c.row.ensures.parts_stand c.place.ensures
