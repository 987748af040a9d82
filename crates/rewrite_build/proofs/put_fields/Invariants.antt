use Rattle.rewrite_build.proofs.Writing.{FieldsPut}
use Rattle.rewrite_build.proofs.put_fields.Given as goal

abbrev pub invariant-loop-i : goal.invariant-loop-i
invariant-loop-i l = FieldsPut l.parts l.row l.want l.initial.out l.initial.p l.out l.p l.i
