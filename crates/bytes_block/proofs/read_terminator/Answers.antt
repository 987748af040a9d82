use Rattle.std.proofs.Common.{◌∙◌, ◌≡◌, ◌<◌, ap, get_or, arith}
use Rattle.mir.specs.TerminatorKind.{number_of_terminator_kind}
use Rattle.mir.proofs.Numbered.{terminator_kind_below}
use Rattle.bytes_wire.specs.Parse.{ok}
use Rattle.bytes_row.proofs.Rows.{at_most}
use Rattle.bytes_block.proofs.Blocks.{no_terminator, terminator_past, terminator_walked}
use Rattle.bytes_field.specs.Walk.{walk_of, terminator_rows}
use Rattle.bytes_block.proofs.read_terminator.Goals as goal

pub returns-in_default : goal.returns-in_default
returns-in_default c =
    let a = c.args in
    rw c.at.ensures (no_terminator a.b (walk_of a.seen.now a.buffer.now a.n a.late) a.s.now c.in_default.len_below)

pub returns-in_default-try_from : goal.returns-in_default-try_from
returns-in_default-try_from c =
    let a = c.args in
    rw c.at-in_default-try_from.ensures
    (terminator_past a.b (walk_of a.seen.now a.buffer.now a.n a.late) a.s.now c.in-len1-up.len_at_least
    (omega (arith, c.in_default-try_from.ensures)))

pub returns : goal.returns
returns c =
    let a = c.args in
    let k = c.in-Ok.kind in
    let e : number_of_terminator_kind k ≡ get_or a.s.now 0 0 = c.in-Ok.ensures in
    let h : get_or a.s.now 0 0 < 5 = omega (arith, terminator_kind_below k) in
    terminator_walked a.b (walk_of a.seen.now a.buffer.now a.n a.late) a.s.now c.in-len1-up.len_at_least h
    (c.row_of_end.ensures.told ∙ ap (λ n. get_or terminator_rows n 0) e) (at_most a.b 0 a.s.now (ok (walk_of a.seen.now a.buffer.now a.n a.late) 1) c.row_of_end.result.now 5 c.row_of_end.ensures.few c.row_behind.ensures)
