use Rattle.std.proofs.Common.{arith, rules, of_calls, ◌≡◌, Ok}
use Rattle.std.proofs.iter.Serving.{serving}
use Rattle.bytes_block.proofs.Filling.{filling_size, filling_refused, filling_reads, filling_again, filling_done}
use Rattle.bytes_block.proofs.instruction_rows.Goals as goal

pub map_err-requires : goal.map_err-requires
map_err-requires c = λ e q.
    let a = c.args in
    let l = c.loop-i in
    let r = c.read_instruction in
    let h = filling_size a.b a.at a.count a.first a.s.now a.seen.now a.facts.now l.facts l.i l.here l.late l.seen l.invariant.2
    c.loop-i-test.true r.new.seen r.new.buffer (rw (c.behind-t.ensures, c.row_place-reads.ensures) at r.ensures) q in
    grind (serving, arith, h)

pub returns-in_err-p : goal.returns-in_err-p
returns-in_err-p c =
    let a = c.args in
    let l = c.loop-i in
    let r = c.read_instruction in
    filling_refused a.b a.at a.count a.first a.s.now a.seen.now a.facts.now l.facts l.i l.here l.late l.seen l.invariant.2
    c.loop-i-test.true r.new.seen r.new.buffer (rw (c.behind-t.ensures, c.row_place-reads.ensures) at r.ensures) _ (search (rules, of_calls))

pub overflow_add-end : goal.overflow_add-end
overflow_add-end c =
    let a = c.args in
    let l = c.loop-i in
    let r = c.read_instruction in
    let q : r.result ≡ Ok c.in_ok-p.p = search rules in
    omega (
      arith,
      filling_size a.b a.at a.count a.first a.s.now a.seen.now a.facts.now l.facts l.i l.here l.late l.seen l.invariant.2
          c.loop-i-test.true r.new.seen r.new.buffer (rw (c.behind-t.ensures, c.row_place-reads.ensures) at r.ensures) q,
    )

pub end_row-requires : goal.end_row-requires
end_row-requires c =
    let a = c.args in
    let l = c.loop-i in
    let r = c.read_instruction in
    let q : r.result ≡ Ok c.in_ok-p.p = search rules in
    filling_reads a.b a.at a.count a.first a.s.now a.seen.now a.facts.now l.facts l.i l.here l.late l.seen l.invariant.2
    c.loop-i-test.true r.new.seen r.new.buffer (rw (c.behind-t.ensures, c.row_place-reads.ensures) at r.ensures) q

pub loop-i-preserved : goal.loop-i-preserved
loop-i-preserved c =
    let a = c.args in
    let l = c.loop-i in
    let r = c.read_instruction in
    let q : r.result ≡ Ok c.in_ok-p.p = search rules in (
      search rules,
      search rules,
      filling_again a.b a.at a.count a.first a.s.now a.seen.now a.facts.now l.facts l.i l.here l.late l.seen l.invariant.2
          c.loop-i-test.true r.new.seen r.new.buffer (rw (c.behind-t.ensures, c.row_place-reads.ensures) at r.ensures) q _
          (rw (c.kind_at.ensures, c.behind-t.ensures) at c.end_row.ensures),
    )

pub returns : goal.returns
returns c =
    let a = c.args in
    let l = c.loop-i in
    filling_done a.b a.at a.count a.first a.s.now a.seen.now a.facts.now l.facts l.i l.here l.late l.seen l.invariant.2
    c.loop-i-test.false
