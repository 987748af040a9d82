use Rattle.std.proofs.Common.{rules}
use Rattle.mir.specs.TypeKind.{number_of_type_kind}
use Rattle.bytes_wire.proofs.Numbered.{kind_is}
use Rattle.rewrite_build.proofs.Rebuilding.{tuple_keeps, struct_keeps, all_kept}
use Rattle.rewrite_build.proofs.row_keeps.Goals as goal

pub returns-in-Some-Tuple-clause-of_type : goal.returns-in-Some-Tuple-clause-of_type
returns-in-Some-Tuple-clause-of_type c = λ most own n T h e xs l.
    rw c.min.ensures (tuple_keeps most own n _ T xs h e _ _ (kind_is number_of_type_kind c.in-Some-Tuple.field-0-is c.in-Some-Tuple.ensures) c.byte_at.ensures l)

pub returns-in-Some-Struct-clause-of_type : goal.returns-in-Some-Struct-clause-of_type
returns-in-Some-Struct-clause-of_type c = λ most own n T h e xs l.
    rw c.min-in-Some-Struct.ensures (struct_keeps most own n _ T xs h e _ _ (kind_is number_of_type_kind c.in-Some-Struct.field-0-is c.in-Some-Struct.ensures) c.field_count.ensures l)

pub returns-in_default-clause-of_type : goal.returns-in_default-clause-of_type
returns-in_default-clause-of_type c = λ most own n T h e xs l. all_kept most own n _ T xs h e _ (λ g. search rules) (λ g. search rules) l

pub returns-in_default-2-clause-of_type : goal.returns-in_default-2-clause-of_type
returns-in_default-2-clause-of_type c = λ most own n T h e xs l. all_kept most own n _ T xs h e _ (λ g. search rules) (λ g. search rules) l
