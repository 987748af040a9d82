use Rattle.std.proofs.Common.{arith, rules}
use Rattle.mir.specs.TypeKind.{number_of_type_kind}
use Rattle.bytes_wire.proofs.Numbered.{kind_is}
use Rattle.rewrite_build.specs.Written.{renumbered}
use Rattle.rewrite_build.proofs.Rebuilding.{tuple_made, struct_made, array_made, none_made}
use Rattle.rewrite_build.proofs.put_make.Goals as goal

pub returns-in-Some-Tuple-clause-of_type : goal.returns-in-Some-Tuple-clause-of_type
returns-in-Some-Tuple-clause-of_type c =
    λ most own n T h e xs r l m.
    tuple_made most own n _ T (renumbered c.args.parts.nums.now xs) h e _ _ _ _ _ _ _ (kind_is number_of_type_kind c.in-Some-Tuple.field-0-is c.in-Some-Tuple.ensures) c.byte_at-want.ensures
    (c.put_tuple.ensures.of_parts xs r l)

pub returns-in-Some-Struct-clause-of_type : goal.returns-in-Some-Struct-clause-of_type
returns-in-Some-Struct-clause-of_type c =
    λ most own n T h e xs r l m.
    struct_made most own n _ T (renumbered c.args.parts.nums.now xs) h e _ _ _ _ _ _ (kind_is number_of_type_kind c.in-Some-Struct.field-0-is c.in-Some-Struct.ensures)
    (c.put_struct.ensures.of_parts xs r l)

pub returns-in-Some-FixedArray-clause-of_type : goal.returns-in-Some-FixedArray-clause-of_type
returns-in-Some-FixedArray-clause-of_type c =
    λ most own n T h e xs r l m.
    array_made most own n _ T (renumbered c.args.parts.nums.now xs) h e _ _ _ _ _ _ _ (kind_is number_of_type_kind c.in-Some-FixedArray.field-0-is c.in-Some-FixedArray.ensures) c.u16_at.ensures
    (c.put_array.ensures.of_parts xs r l (omega arith))

pub returns-in_default-2-clause-of_type : goal.returns-in_default-2-clause-of_type
returns-in_default-2-clause-of_type c =
    λ most own n T h e xs r l m. none_made most own n _ T (renumbered c.args.parts.nums.now xs) h e _ _ _ _ (λ g. search rules) (λ g. search rules) (λ g. search rules)

pub returns-in_default-clause-of_type : goal.returns-in_default-clause-of_type
returns-in_default-clause-of_type c =
    λ most own n T h e xs r l m. none_made most own n _ T (renumbered c.args.parts.nums.now xs) h e _ _ _ _ (λ g. search rules) (λ g. search rules) (λ g. search rules)
