use Rattle.rewrite_patch.proofs.Putting.{Putting}
use Rattle.rewrite_patch.proofs.put_numbers.Given as goal

abbrev pub invariant-loop-j : goal.invariant-loop-j
invariant-loop-j l = Putting l.code l.slot l.to l.nums l.initial.out l.out l.j
