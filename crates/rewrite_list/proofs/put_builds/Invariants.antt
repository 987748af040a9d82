use Rattle.rewrite_list.proofs.Building.{Building}
use Rattle.rewrite_list.proofs.put_builds.Given as goal

abbrev pub invariant-loop-i : goal.invariant-loop-i
invariant-loop-i l = Building l.values l.initial.out l.initial.work l.initial.q l.out l.work l.q l.here l.i
