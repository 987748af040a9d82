use Rattle.fold_readers.proofs.Blocks.{noting_again, noting_done}
use Rattle.fold_readers.proofs.note_readers.Goals as goal

pub loop-k-preserved : goal.loop-k-preserved
loop-k-preserved c =
    let a = c.args in
    let l = c.loop-k in
    noting_again a.code.facts.now _ _ l.readers _ l.k _ c.block_slots-slots.result l.invariant c.loop-k-test.true c.block_number.ensures
    c.block_slots-slots.ensures c.note_block.ensures

pub returns : goal.returns
returns c = noting_done c.args.code.facts.now _ _ c.loop-k.readers c.loop-k.k c.loop-k.invariant c.loop-k-test.false
