use Rattle.fold_choose.proofs.EachBlock.{Choosing}
use Rattle.fold_choose.proofs.choose.Given as goal

abbrev pub invariant-loop-k : goal.invariant-loop-k
invariant-loop-k l = Choosing l.settings l.values l.code l.initial.choice l.k l.choice l.graph
