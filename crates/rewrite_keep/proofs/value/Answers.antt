use Rattle.std.proofs.Common.{arith}
use Rattle.bytes_laws.specs.WellFormed.{Wide}
use Rattle.rewrite_keep.proofs.Values.{instruction_read, return_read}
use Rattle.rewrite_keep.proofs.value.Goals as goal

pub returns-in-Instruction : goal.returns-in-Instruction
returns-in-Instruction c =
    let a = c.args in
    let w : Wide a.code.bounds = record { types = omega arith; next = omega arith; blocks = omega arith; list = omega arith; projections = omega arith } in
    rw c.in-Instruction.is (instruction_read a.code a.slot a.j c.reading.result w c.reading.ensures)

pub returns-in-Return : goal.returns-in-Return
returns-in-Return c =
    let a = c.args in
    let w : Wide a.code.bounds = record { types = omega arith; next = omega arith; blocks = omega arith; list = omega arith; projections = omega arith } in
    rw c.in-Return.is (return_read a.code a.slot a.j c.return_value.result w c.return_value.ensures)
