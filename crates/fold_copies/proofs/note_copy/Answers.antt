use Rattle.fold_copies.specs.Found.{asked_number}
use Rattle.fold_copies.proofs.Scan.{rows_more}
use Rattle.fold_copies.proofs.note_copy.Goals as goal

pub returns-clause-noted : goal.returns-clause-noted
returns-clause-noted c =
    let a = c.args in
    let x = c.in-Some.c in
    λ cs r m w. rw c.in-Some.is (rows_more a.copies.now a.n cs (record { source = x.source.0; dest = x.dest.0; asked = asked_number x.asked }) r m w c.requires
    c.put.ensures (rw c.asked_number.ensures at c.put-2.ensures) c.number.ensures c.put-3.ensures c.put-4.ensures)
