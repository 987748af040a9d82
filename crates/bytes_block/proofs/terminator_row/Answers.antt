use Rattle.std.proofs.Common.{arith, rules, ◌≡◌, Ok}
use Rattle.std.proofs.iter.Serving.{serving}
use Rattle.bytes_block.proofs.Blocks.{end_size, end_reads, end_some}
use Rattle.bytes_block.proofs.terminator_row.Goals as goal

pub map_err-requires : goal.map_err-requires
map_err-requires c = λ e q.
    let a = c.args in
    let r = c.read_terminator in
    let h = end_size a.b a.s.now a.facts.now r.new.buffer _ r.new.seen a.slot a.at c.requires _
    (rw (c.behind-t.ensures, c.row_place-reads.ensures) at r.ensures) q in
    grind (serving, arith, h)

pub overflow_add-end : goal.overflow_add-end
overflow_add-end c =
    let a = c.args in
    let r = c.read_terminator in
    let q : r.result ≡ Ok c.in_ok-p.p = search rules in
    omega (
      arith,
      end_size a.b a.s.now a.facts.now r.new.buffer _ r.new.seen a.slot a.at c.requires _
          (rw (c.behind-t.ensures, c.row_place-reads.ensures) at r.ensures) q,
    )

pub end_row-requires : goal.end_row-requires
end_row-requires c =
    let a = c.args in
    let r = c.read_terminator in
    let q : r.result ≡ Ok c.in_ok-p.p = search rules in
    end_reads a.b a.s.now a.facts.now r.new.buffer _ r.new.seen a.slot a.at c.requires _
    (rw (c.behind-t.ensures, c.row_place-reads.ensures) at r.ensures) q

pub returns : goal.returns
returns c =
    let a = c.args in
    let r = c.read_terminator in
    let q : r.result ≡ Ok c.in_ok-p.p = search rules in
    end_some a.b a.s.now a.facts.now r.new.buffer _ r.new.seen a.slot a.at c.requires _
    (rw (c.behind-t.ensures, c.row_place-reads.ensures) at r.ensures) q _ c.end_row.ensures
