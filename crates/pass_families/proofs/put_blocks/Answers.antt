use Rattle.std.proofs.Common.{arith}
use Rattle.pass_input.proofs.Accepted.{next_few}
use Rattle.pass_families.proofs.Parts.{part_length}
use Rattle.pass_families.proofs.Putting.{slots_few, next_start, putting_on_blocks, puts_blocks}
use Rattle.pass_families.proofs.put_blocks.Goals as goal

pub put_block-to-requires : goal.put_block-to-requires
put_block-to-requires c =
    let l = c.loop-k in
    let few = slots_few c.requires.0 c.block_slots-slots.result c.block_slots-slots.ensures c.loop-k-test.true in
    (next_few c.requires.0, omega (arith, few.0, few.1, part_length l.text l.to, l.invariant.0, c.requires.1, l.auto.text))

pub loop-k-preserved : goal.loop-k-preserved
loop-k-preserved c =
    let a = c.args in
    let l = c.loop-k in
    let few = slots_few c.requires.0 c.block_slots-slots.result c.block_slots-slots.ensures c.loop-k-test.true in (
      omega (arith, l.invariant.0, few.0, next_start c.requires.0 c.block_slots-slots.result c.block_slots-slots.ensures c.loop-k-test.true, c.put_block-to.ensures.upper_bound),
      omega (arith, few.0, few.1, l.invariant.0, c.put_block-to.ensures.upper_bound),
      putting_on_blocks a.named a.code a.shapes.now a.text.now l.text l.to l.k c.block_slots-slots.result
          l.invariant.2 c.loop-k-test.true c.block_slots-slots.ensures
          c.put_block-to.new.text c.put_block-to.result c.put_block-to.ensures.written,
    )

pub returns-clause-written : goal.returns-clause-written
returns-clause-written c =
    let a = c.args in
    let l = c.loop-k in
    puts_blocks a.named a.code a.shapes.now a.text.now l.text l.to l.k l.invariant.2 c.loop-k-test.false
