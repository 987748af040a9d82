use Rattle.fold_readers.proofs.Blocks.{reading_again, reading_done}
use Rattle.fold_readers.proofs.note_block.Goals as goal

pub loop-k-preserved : goal.loop-k-preserved
loop-k-preserved c =
    let a = c.args in
    let l = c.loop-k in
    reading_again a.own.number a.facts.now a.slots _ l.readers _ l.k l.invariant c.loop-k-test.true
    c.note_instruction.ensures

pub returns : goal.returns
returns c =
    let a = c.args in
    let l = c.loop-k in
    reading_done a.own.number a.facts.now a.slots _ l.readers _ l.k l.invariant c.loop-k-test.false
    (rw c.end.ensures at c.note_reads.ensures)
