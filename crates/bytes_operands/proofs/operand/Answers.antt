use Rattle.std.proofs.Common.{arith, refl, ap, drop}
use Rattle.mir.specs.Kind.{number_of_kind}
use Rattle.mir.specs.Option.{as_option}
use Rattle.bytes_operands.specs.Fields.{fields_place}
use Rattle.bytes_operands.proofs.Instruction.{instruction_fields, no_operand, operand_at}
use Rattle.bytes_operands.proofs.operand.Goals as goal

pub returns-in_err-kind : goal.returns-in_err-kind
returns-in_err-kind c = λ seen late i n e.
    let a = c.args in
    absurd (omega (arith, c.in_err-kind.ensures, (instruction_fields a.b seen late a.s.now i n e).known))

pub returns-then-o-k : goal.returns-then-o-k
returns-then-o-k c = λ seen late i n e.
    let a = c.args in
    no_operand a.b seen late a.s.now i n e (drop (fields_place a.s.now) a.s.now) (number_of_kind c.in_ok-kind.kind) a.k refl c.in_ok-kind.ensures
    (omega (arith, ap (λ o. o.count) c.operands_of-o.ensures, c.if-o-k.true))

pub returns : goal.returns
returns c = λ seen late i n e.
    let a = c.args in
    operand_at a.b seen late a.s.now i n e c.own_fields-t.result.now (number_of_kind c.in_ok-kind.kind) a.k
    c.own_fields-t.ensures c.in_ok-kind.ensures c.values_end.result
    (omega (arith, ap (λ o. o.count) c.operands_of-o.ensures, c.if-o-k.false))
    (simp (c.values_end.ensures.0, c.operand_first.ensures.0, c.operands_of-o.ensures)) (λ x m e. ap as_option (c.found_at.ensures x m e))
