use Rattle.fold_readers.proofs.Noting.{via_again, via_done}
use Rattle.fold_readers.proofs.note_reads.Goals as goal

pub loop-k-preserved : goal.loop-k-preserved
loop-k-preserved c =
    let a = c.args in
    let l = c.loop-k in
    via_again a.own.number a.facts.now a.slot _ _ l.readers _ l.k _ l.invariant c.loop-k-test.true c.read.ensures
    c.note_reader.ensures

pub returns : goal.returns
returns c = let a = c.args in let l = c.loop-k in via_done a.own.number a.facts.now a.slot _ _ l.readers l.k l.invariant c.loop-k-test.false
