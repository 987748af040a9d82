use Rattle.rewrite_step.specs.Stepping.{lent_as}
use Rattle.rewrite_blocks.proofs.Walks.{Walking}
use Rattle.rewrite_blocks.proofs.put_instructions.Given as goal

abbrev pub invariant-loop-j : goal.invariant-loop-j
invariant-loop-j l = Walking l.run l.at
    (lent_as l.initial.tracked l.initial.dropped l.initial.work l.initial.out) l.initial.v (lent_as l.tracked l.dropped l.work l.out) l.v l.j
