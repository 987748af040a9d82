use Rattle.std.proofs.Common.{refl, sym, rules, ◌≡◌, Err}
use Rattle.bytes_wire.proofs.Inv.{no_ok}
use Rattle.mir.specs.Kind.{number_of_kind}
use Rattle.bytes_row.proofs.Rows.{at_most}
use Rattle.bytes_block.proofs.Start.{peeked}
use Rattle.bytes_block.proofs.Laws.{instruction_walked, instruction_refused}
use Rattle.bytes_field.specs.Walk.{walk_of, scanned}
use Rattle.bytes_block.proofs.read_instruction.Goals as goal

pub returns-in_err-head : goal.returns-in_err-head
returns-in_err-head c =
    let a = c.args in
    let z : c.from_residual.result ≡ Err c.in_err-head.field-0.0 = search rules in
    rw z (instruction_refused a.b (walk_of a.seen.now a.buffer.now a.n a.late) a.s.now (sym (c.in_err-head.ensures)))

pub returns-in_err-p : goal.returns-in_err-p
returns-in_err-p c =
    let a = c.args in
    let h = c.in_ok-head.head in
    let z : c.from_residual-in_err-p.result ≡ Err c.in_err-p.field-0.0 = search rules in
    rw z (instruction_walked a.b (walk_of a.seen.now a.buffer.now a.n a.late) a.s.now h.bits (number_of_kind h.kind) 0 _ (sym (c.in_ok-head.ensures)) (c.in_err-p.ensures a.seen.now a.buffer.now)
    (λ v at e. absurd (no_ok e)) refl refl refl)

pub returns-in_err-q : goal.returns-in_err-q
returns-in_err-q c =
    let a = c.args in
    let h = c.in_ok-head.head in
    let p = c.in_ok-p.p in
    let l = c.row_behind.new in
    let z : c.from_residual-in_err-q.result ≡ Err c.in_err-q.field-0.0 = search rules in
    rw z (instruction_walked a.b (walk_of a.seen.now a.buffer.now a.n a.late) a.s.now h.bits (number_of_kind h.kind) c.byte_at-many.result _ (sym (c.in_ok-head.ensures)) (c.in_ok-p.ensures a.seen.now a.buffer.now)
    (peeked a.s.now c.byte_at-many.result (walk_of a.seen.now a.buffer.now p.reads p.late) p.size c.byte_at-many.ensures) c.row_of_kind-row.ensures.told
    (at_most a.b c.byte_at-many.result a.s.now (scanned a.seen.now a.buffer.now p) c.row_of_kind-row.result.now 5 c.row_of_kind-row.ensures.few c.in_err-q.ensures) refl)

pub returns : goal.returns
returns c =
    let a = c.args in
    let h = c.in_ok-head.head in
    let p = c.in_ok-p.p in
    let l = c.row_behind.new in
    instruction_walked a.b (walk_of a.seen.now a.buffer.now a.n a.late) a.s.now h.bits (number_of_kind h.kind) c.byte_at-many.result _ (sym (c.in_ok-head.ensures)) (c.in_ok-p.ensures a.seen.now a.buffer.now)
    (peeked a.s.now c.byte_at-many.result (walk_of a.seen.now a.buffer.now p.reads p.late) p.size c.byte_at-many.ensures)
    c.row_of_kind-row.ensures.told (at_most a.b c.byte_at-many.result a.s.now (scanned a.seen.now a.buffer.now p) c.row_of_kind-row.result.now 5 c.row_of_kind-row.ensures.few c.in_ok-q.ensures) (c.kind_behind.ensures l.seen l.buffer)
