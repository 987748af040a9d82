use Rattle.std.proofs.Common.{◌++◌, ap, ◌∙◌, drop}
use Rattle.pass_numbers.specs.Ten.{ten_numbers}
use Rattle.pass_numbers.proofs.Laws.{stored_part}
use Rattle.pass_numbers.proofs.put_numbers.Goals as goal

pub returns : goal.returns
returns c =
    let a = c.args in
    ap (λ l. l ++ drop c.min-room.result a.answer.now) c.copy_from_slice.ensures.after ∙ stored_part a.answer.now (ten_numbers a.n) _ c.min-room.ensures
