use Rattle.std.proofs.Common.{arith}
use Rattle.text.proofs.Writing.{written_as}
use Rattle.pass_input.proofs.Accepted.{accepted_read, refused_read}
use Rattle.pass_families.proofs.Putting.{lines_accepted, lines_refused}
use Rattle.pass_families.proofs.families_text.Goals as goal

pub put_routine-requires : goal.put_routine-requires
put_routine-requires c = (accepted_read c.args.s.now _ (λ j. omega (arith, c.type_inv.s j)) _ c.read_routine.ensures _ c.in-Ok.is, c.requires)

pub returns-in-Err-clause-written : goal.returns-in-Err-clause-written
returns-in-Err-clause-written c =
    written_as
    (lines_refused c.args.named c.args.s.now c.in-Err.e.cause c.in-Err.e.offset c.cause_number.result c.cause_number.ensures
    (refused_read c.args.s.now _ (λ j. omega (arith, c.type_inv.s j)) _ c.read_routine.ensures _ c.in-Err.is))
    c.checked_line.ensures.written

pub returns-in-Ok-clause-written : goal.returns-in-Ok-clause-written
returns-in-Ok-clause-written c =
    let a = accepted_read c.args.s.now _ (λ j. omega (arith, c.type_inv.s j)) _ c.read_routine.ensures _ c.in-Ok.is in
    written_as (lines_accepted c.args.named c.args.s.now _ _ a) (c.put_routine.ensures.written a)
