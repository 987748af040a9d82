use Rattle.std.proofs.Common.{arith, ap}
use Rattle.mir.specs.Kind.{number_of_kind}
use Rattle.mir.specs.Option.{as_option}
use Rattle.bytes_operands.proofs.Instruction.{instruction_fields, no_step, step_at}
use Rattle.bytes_operands.proofs.projection.Goals as goal

pub returns-in_err-kind : goal.returns-in_err-kind
returns-in_err-kind c = λ seen late i n e.
    let a = c.args in
    absurd (omega (arith, c.in_err-kind.ensures, (instruction_fields a.b seen late a.s.now i n e).known))

pub returns-then-step_count-k : goal.returns-then-step_count-k
returns-then-step_count-k c = λ seen late i n e.
    let a = c.args in
    no_step a.b seen late a.s.now i n e c.own_fields-t.result.now (number_of_kind c.in_ok-kind.kind) a.k
    c.own_fields-t.ensures c.in_ok-kind.ensures
    (omega (arith, c.step_count.ensures, c.if-step_count-k.true))

pub returns : goal.returns
returns c = λ seen late i n e.
    let a = c.args in
    step_at a.b seen late a.s.now i n e c.own_fields-t.result.now (number_of_kind c.in_ok-kind.kind) a.k
    c.own_fields-t.ensures c.in_ok-kind.ensures c.projections_end.result
    (omega (arith, c.step_count.ensures, c.if-step_count-k.false))
    (simp (c.projections_end.ensures.0, c.steps_at.ensures.0)) (λ x m e. ap as_option (c.step_at.ensures x m e))
