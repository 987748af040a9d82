use Rattle.fold_looked.proofs.Looking.{Flagging}
use Rattle.fold_looked.proofs.look_all.Given as goal

abbrev pub invariant-loop-j : goal.invariant-loop-j
invariant-loop-j l = Flagging l.code l.slots l.tables l.initial.family l.initial.looked l.family l.looked l.members l.j
