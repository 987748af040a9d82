use Rattle.std.proofs.Common.{arith}
use Rattle.rewrite_parts.proofs.Tables.{found_row, row_stands}
use Rattle.rewrite_parts.proofs.row.Goals as goal

pub returns-clause-parts_stand : goal.returns-clause-parts_stand
returns-clause-parts_stand c =
    λ next s tracked used S xs r e.
    let h = found_row r c.args.v.0 e in
    let n = rw c.place-at.ensures at c.number-n.ensures in
    rw c.place-at.ensures (row_stands h r.room _ (omega (arith, n, h.many)))
