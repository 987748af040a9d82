use Rattle.rewrite_step.specs.Stepping.{lent_as}
use Rattle.rewrite_blocks.proofs.Rounds.{Laid}
use Rattle.rewrite_blocks.proofs.put_blocks.Given as goal

abbrev pub invariant-loop-k : goal.invariant-loop-k
invariant-loop-k l = Laid l.run (lent_as l.initial.tracked l.initial.dropped l.initial.work l.initial.out)
    l.initial.q (lent_as l.tracked l.dropped l.work l.out) l.q l.k
