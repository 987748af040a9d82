use Rattle.fold_copies.specs.Found.{as_copy}
use Rattle.fold_copies.proofs.Scan.{scan_start, scan_again, scan_done}
use Rattle.fold_copies.proofs.scan_copies.Goals as goal

pub loop-k-init : goal.loop-k-init
loop-k-init c = let a = c.args in scan_start a.code a.first a.count a.copies.now a.dynamic.now

pub loop-k-preserved : goal.loop-k-preserved
loop-k-preserved c =
    let a = c.args in
    let l = c.loop-k in
    scan_again a.code a.first a.count _ _ l.copies l.dynamic l.n l.k _ _ _ _
    (as_copy c.copy_at.result) l.invariant c.loop-k-test.true c.rows-row.ensures
    c.copy_at.ensures c.note_copy-n.ensures.few c.note_copy-n.ensures.noted c.note_dynamic.ensures c.note_copy-n.auto.copies

pub returns : goal.returns
returns c =
    let a = c.args in
    let l = c.loop-k in
    scan_done a.code a.first a.count _ _ l.copies l.dynamic l.n l.k l.invariant c.loop-k-test.false
