use Prim.Native.Nat.{◌+◌}
use native.Mathlib.Omega.{arith}
use Rattle.bytes_sections.specs.Decode.{mosts}
use Rattle.rewrite_step.specs.Stepping.{lent_as}
use Rattle.rewrite_perform.proofs.Lows.{low_mono}
use Rattle.rewrite_blocks.proofs.Laying.{skipped_puts}
use Rattle.rewrite_blocks.proofs.put_block.Goals as goal

pub returns-then-flag : goal.returns-then-flag
returns-then-flag c = let a = c.args in record {
  by_index = λ n y. low_mono (n + 1) (n + 130) _ (omega arith) (c.put_part.ensures.by_index n y);
  one_put = skipped_puts a.run a.k.0 a.p
      (lent_as a.tracked.now a.dropped.now a.work.now a.out.now) _ _ _ _ c.flag.ensures c.if-flag.true
      (λ τ ks co h. c.block_bytes-part.ensures mosts a.run.code.bounds ks co.ground.bytes (rw c.blocks-then-flag.ensures co.blocks) h)
      c.put_part.ensures.part_put;
}
