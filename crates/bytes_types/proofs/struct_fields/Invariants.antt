use Rattle.bytes_types.proofs.Fields.{FieldsUpto}
use Rattle.bytes_types.proofs.struct_fields.Given as goal

abbrev pub invariant-loop-i : goal.invariant-loop-i
invariant-loop-i l = FieldsUpto l.own l.s l.from l.count l.i l.at
