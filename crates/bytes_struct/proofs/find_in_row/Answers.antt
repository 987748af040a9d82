use Rattle.std.proofs.Common.{rules, ap, ◌≡◌, ◌+◌, ◌*◌, ℕ, Some, None}
use Rattle.bytes_wire.specs.Number.{at16}
use Rattle.bytes_wire.proofs.Numbered.{kind_is}
use Rattle.mir.specs.TypeKind.{number_of_type_kind}
use Rattle.bytes_struct.proofs.Seek.{among_found, other_found}
use Rattle.bytes_struct.proofs.find_in_row.Goals as goal

pub returns-in_default : goal.returns-in_default
returns-in_default c = λ most own n T e. other_found most own n _ T _ e (λ h. search rules)

pub returns-in_default-2 : goal.returns-in_default-2
returns-in_default-2 c = λ most own n T e. other_found most own n _ T _ e (λ h. search rules)

pub returns-in_err-i : goal.returns-in_err-i
returns-in_err-i c = λ most own n T e.
    let k = kind_is number_of_type_kind c.in-Some-Struct.field-0-is c.in-Some-Struct.ensures in
    rw c.from_residual.ensures (among_found most own n c.args.row.now T c.args.name e k None c.in_err-i.ensures)

pub returns : goal.returns
returns c = λ most own n T e.
    let k = kind_is number_of_type_kind c.in-Some-Struct.field-0-is c.in-Some-Struct.ensures in
    let p : c.part.result ≡ record { 0 = at16 c.args.row.now (6 + 4 * c.in_ok-i.i) } = ap (λ (j : ℕ). record { 0 = j }) c.part.ensures in
    rw (p, c.field_count-fields.ensures) (among_found most own n c.args.row.now T c.args.name e k (Some c.in_ok-i.i) c.in_ok-i.ensures)
