use Rattle.rewrite_patch.proofs.Returns.{Replacing}
use Rattle.rewrite_patch.proofs.put_return_numbers.Given as goal

abbrev pub invariant-loop-j : goal.invariant-loop-j
invariant-loop-j l = Replacing l.code l.slot l.to l.nums l.initial.out l.out l.j
