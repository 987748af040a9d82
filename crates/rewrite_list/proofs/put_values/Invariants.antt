use Rattle.rewrite_list.proofs.Valuing.{Valuing}
use Rattle.rewrite_list.proofs.put_values.Given as goal

abbrev pub invariant-loop-i : goal.invariant-loop-i
invariant-loop-i l = Valuing l.values l.initial.out l.initial.w l.out l.w l.here l.i
