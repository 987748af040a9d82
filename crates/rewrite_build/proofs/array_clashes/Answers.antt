use Rattle.std.proofs.Common.{rules}
use Rattle.mir.specs.TypeKind.{number_of_type_kind}
use Rattle.bytes_wire.proofs.Numbered.{kind_is}
use Rattle.rewrite_build.proofs.Rebuilding.{array_size, no_array}
use Rattle.rewrite_build.proofs.array_clashes.Goals as goal

pub returns-in-Some-FixedArray : goal.returns-in-Some-FixedArray
returns-in-Some-FixedArray c =
    λ most own n T h e xs l.
    rw (← l, c.u32_at.ensures)
    (array_size most own n _ T xs h e (kind_is number_of_type_kind c.in-Some-FixedArray.field-0-is c.in-Some-FixedArray.ensures))

pub returns-in_default : goal.returns-in_default
returns-in_default c = λ most own n T h e xs l. no_array most own n _ T xs h e (λ g. search rules)

pub returns-in_default-2 : goal.returns-in_default-2
returns-in_default-2 c = λ most own n T h e xs l. no_array most own n _ T xs h e (λ g. search rules)
