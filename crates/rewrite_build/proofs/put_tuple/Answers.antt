use Rattle.rewrite_build.specs.Written.{renumbered}
use Rattle.rewrite_build.proofs.Heads.{tuple_writes}
use Rattle.rewrite_build.proofs.put_tuple.Goals as goal

pub returns-clause-of_parts : goal.returns-clause-of_parts
returns-clause-of_parts c =
    λ xs r l. tuple_writes _ _ c.args.d c.args.out.now _ _ (renumbered c.args.parts.nums.now xs) c.args.want c.put_head.ensures (c.put_parts.ensures.of_parts xs r l)
