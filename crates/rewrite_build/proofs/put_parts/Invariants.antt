use Rattle.rewrite_build.proofs.Writing.{PartsPut}
use Rattle.rewrite_build.proofs.put_parts.Given as goal

abbrev pub invariant-loop-i : goal.invariant-loop-i
invariant-loop-i l = PartsPut l.parts l.want l.initial.out l.initial.p l.out l.p l.i
