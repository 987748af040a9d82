use Rattle.std.proofs.Common.{arith}
use Rattle.std.proofs.lemmas.Result.{err_from_is_err_and}
use Rattle.pass_input.proofs.Accepted.{accepted_read, refused_read}
use Rattle.pass_answers.proofs.Given.{answers_large, answers_input}
use Rattle.pass_lower.proofs.lower_into.Goals as goal

pub returns-then-settings-gt-LARGEST : goal.returns-then-settings-gt-LARGEST
returns-then-settings-gt-LARGEST c = answers_large c.args.settings c.args.input.now c.args.out.now c.if-settings-gt-LARGEST.true

pub lower_read-requires : goal.lower_read-requires
lower_read-requires c = record {
  accepted = accepted_read c.args.input.now _ (λ j. omega (arith, c.type_inv.input j)) _ c.read_routine.ensures _ c.in_ok-bounds.was;
  small = c.if-settings-gt-LARGEST.false;
}

pub returns-in_err-bounds : goal.returns-in_err-bounds
returns-in_err-bounds c =
    let e = err_from_is_err_and c.from_residual.result c.from_residual.ensures.1 in
    rw (e.1, e.2) (answers_input c.args.settings c.args.input.now c.args.out.now _ c.if-settings-gt-LARGEST.false
    (refused_read c.args.input.now _ (λ j. omega (arith, c.type_inv.input j)) _ c.read_routine.ensures _ c.in_err-bounds.was))
