use Rattle.fold_choose.proofs.Flags.{Deciding}
use Rattle.fold_choose.proofs.decide_all.Given as goal

abbrev pub invariant-loop-j : goal.invariant-loop-j
invariant-loop-j l = Deciding l.settings l.view.shapes.now l.view.graph.now l.looked l.code l.slots l.initial.choice l.j l.choice
