use Rattle.std.proofs.Common.{◌∙◌, ◌≡◌, refl, rules, Err}
use Rattle.bytes_types.proofs.Numbered.{numbered_below, struct_number, other_number}
use Rattle.bytes_types.proofs.Rows.{type_none, type_undefined, type_struct, read_row}
use Rattle.bytes_types.proofs.read_type.Goals as goal

pub returns-in_default : goal.returns-in_default
returns-in_default c = rw c.at.ensures (type_none c.args.most c.args.own c.args.s.now c.in_default.len_below)

pub returns-in_default-try_from : goal.returns-in_default-try_from
returns-in_default-try_from c =
    rw c.at-in_default-try_from.ensures (type_undefined c.args.most c.args.own c.args.s.now c.in-len1-up.len_at_least c.in_default-try_from.ensures)

pub returns-then-eq : goal.returns-then-eq
returns-then-eq c =
    let a = c.args in
    c.struct_type.ensures ∙ type_struct a.most a.own a.s.now c.in-len1-up.len_at_least (struct_number c.in-Ok.kind c.in-Ok.ensures c.if-eq.ensures)

pub returns-in_err-p : goal.returns-in_err-p
returns-in_err-p c =
    let a = c.args in
    let z : c.from_residual.result ≡ Err c.in_err-p.field-0.0 = search rules in
    rw z (read_row (record { types = a.own; next = 0; blocks = 0; list = a.most; projections = 0 }) _ a.s.now _ c.in-Ok.ensures c.row_of_type.ensures.told
    c.row_of_type.ensures.few refl c.in_err-p.ensures c.in-len1-up.len_at_least (numbered_below c.in-Ok.kind c.in-Ok.ensures) (other_number c.in-Ok.kind c.in-Ok.ensures c.if-eq.ensures))

pub returns : goal.returns
returns c =
    let a = c.args in
    read_row (record { types = a.own; next = 0; blocks = 0; list = a.most; projections = 0 }) _ a.s.now _ c.in-Ok.ensures c.row_of_type.ensures.told
    c.row_of_type.ensures.few refl c.in_ok-p.ensures c.in-len1-up.len_at_least (numbered_below c.in-Ok.kind c.in-Ok.ensures) (other_number c.in-Ok.kind c.in-Ok.ensures c.if-eq.ensures)
