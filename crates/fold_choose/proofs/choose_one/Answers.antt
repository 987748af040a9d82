use Rattle.std.proofs.Common.{length}
use Rattle.fold_choose.proofs.EachBlock.{chooses_skip, chooses_block}
use Rattle.fold_choose.proofs.choose_one.Goals as goal

pub returns-then-skip : goal.returns-then-skip
returns-then-skip c =
    let a = c.args in
    chooses_skip a.settings a.values a.code (length a.graph.now)
    a.k.0 c.block_slots-slots.result c.block_slots-slots.ensures c.is_skipped-skip.result c.is_skipped-skip.ensures a.choice.now
    c.put.new.l c.put.ensures c.if-skip.true

pub returns : goal.returns
returns c =
    let a = c.args in
    chooses_block a.settings a.values a.code (length a.graph.now)
    a.k.0 c.block_slots-slots.result c.block_slots-slots.ensures c.is_skipped-skip.result c.is_skipped-skip.ensures a.choice.now
    c.put.new.l c.put.ensures c.choose_block.new.choice c.choose_block.ensures.flagged
    c.choose_block.ensures.decides_block
