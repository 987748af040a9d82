use Rattle.std.proofs.Common.{refl, arith}
use Rattle.rewrite.specs.Run.{rewritten_blocks}
use Rattle.pass_input.proofs.Accepted.{blocks_few}
use Rattle.pass_write.proofs.Answered.{many_few, begun, room_behind, answers_written, shelved_written}
use Rattle.pass_write.proofs.write_body.Goals as goal

pub put_body-requires : goal.put_body-requires
put_body-requires c =
    let h = c.requires in
    record { near = omega (arith, h.near); few = blocks_few h.measured.chosen.accepted; room = room_behind h }

pub overflow_add-next : goal.overflow_add-next
overflow_add-next c = omega (arith, many_few c.requires.measured)

pub overflow_cast-next-2 : goal.overflow_cast-next-2
overflow_cast-next-2 c = omega (arith, many_few c.requires.measured)

pub returns : goal.returns
returns c = λ h.
    let m = h.measured in
    let x = m.chosen.accepted.routine in
    let g = c.put_body.ensures m.chosen (begun m) in
    let seen = shelved_written m h.before h.room _ _ _ h.written g _ refl in
    answers_written m h.before h.room _ _ _ h.written g c.reason-reason.result _
    (c.reason-reason.ensures x (rewritten_blocks c.args.run.settings x) seen) c.new.ensures
