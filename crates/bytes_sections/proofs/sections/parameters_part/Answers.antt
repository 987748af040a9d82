use Rattle.std.proofs.Common.{◌≡◌, refl, rules, Err}
use Rattle.bytes_sections.proofs.Parameters.{parameters_bad, parameters_some}
use Rattle.bytes_sections.proofs.sections.parameters_part.Goals as goal

pub returns-in_err-p : goal.returns-in_err-p
returns-in_err-p c =
    let a = c.args in
    let z : c.from_residual.result ≡ Err c.in_err-p.field-0.0 = search rules in
    rw z (parameters_bad a.b a.s.now a.seen.now _ c.in_err-p.ensures refl)

pub returns : goal.returns
returns c =
    let a = c.args in
    parameters_some a.b a.s.now a.seen.now _ c.in_ok-p.ensures refl
