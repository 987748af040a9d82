use mathlib.Core.Path.{◌∙◌}
use Rattle.mir.specs.TerminatorKind.{number_of_terminator_kind}
use Rattle.mir.proofs.Numbered.{terminator_kind_below}
use Rattle.shelf_reason1.proofs.Whole.{end_at, end_told, end_known, end_typed}
use Rattle.shelf_reason1.proofs.end_agrees.Goals as goal

pub returns-in-Ok : goal.returns-in-Ok
returns-in-Ok c =
    let a = c.args in
    λ τ x g w. end_told a.code.bounds c.instruction-u.result.now c.behind-t.result.now x _ (end_at a.code a.slot c.instruction-u.ensures x w) c.behind-t.ensures
    _ (c.in-Ok.ensures ∙ c.byte_at.ensures) (terminator_kind_below c.in-Ok.kind) (λ m.
    end_typed c.typing.result a.code c.typing.ensures.code c.typing.ensures.recorded τ c.behind-t.result.now (number_of_terminator_kind c.in-Ok.kind) c.end_fits.ensures x m g)

pub returns-in-Err : goal.returns-in-Err
returns-in-Err c =
    let a = c.args in
    λ τ x g w. end_known a.code.bounds c.instruction-u.result.now c.behind-t.result.now x _ (end_at a.code a.slot c.instruction-u.ensures x w) c.behind-t.ensures
    c.byte_at.ensures c.in-Err.ensures
