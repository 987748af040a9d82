use Rattle.std.proofs.Common.{arith}
use Rattle.rewrite_build.specs.Written.{renumbered}
use Rattle.rewrite_build.proofs.Writing.{length_renumbered}
use Rattle.rewrite_build.proofs.Heads.{array_writes}
use Rattle.rewrite_build.proofs.put_array.Goals as goal

pub returns-clause-of_parts : goal.returns-clause-of_parts
returns-clause-of_parts c =
    λ xs r l h.
    let ys = renumbered c.args.parts.nums.now xs in
    array_writes _ _ c.args.d c.args.out.now _ _ ys _ _ c.args.e (omega (arith, length_renumbered c.args.parts.nums.now xs)) c.put_head.ensures
    (c.put_parts-at.ensures.of_parts xs r l) c.put_type_id.ensures
