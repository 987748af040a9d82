use Rattle.std.proofs.Common.{◌≡◌, rules, Ok, Err}
use Rattle.bytes_types.proofs.Fields.{fields_again, fields_stop, fields_done}
use Rattle.bytes_types.proofs.struct_fields.Goals as goal

pub returns-in_err-at : goal.returns-in_err-at
returns-in_err-at c =
    let a = c.args in
    let l = c.loop-i in
    let q : c.struct_field.result ≡ Err c.in_err-at.field-0.0 = search rules in
    let z : c.from_residual.result ≡ Err c.in_err-at.field-0.0 = search rules in
    rw z (fields_stop a.own a.s.now a.from a.count l.i l.at l.invariant c.loop-i-test.true c.struct_field.ensures q)

pub loop-i-preserved : goal.loop-i-preserved
loop-i-preserved c =
    let a = c.args in
    let l = c.loop-i in
    let q : c.struct_field.result ≡ Ok c.in_ok-at.at = search rules in
    fields_again a.own a.s.now a.from a.count l.i l.at l.invariant c.loop-i-test.true c.struct_field.ensures q

pub returns : goal.returns
returns c =
    let a = c.args in
    let l = c.loop-i in
    fields_done a.own a.s.now a.from a.count l.i l.at l.invariant c.loop-i-test.false
