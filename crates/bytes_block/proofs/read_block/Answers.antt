use Rattle.std.proofs.Common.{arith, sym, rules, of_calls, ◌≡◌, Ok, Err, drop, length-drop}
use Rattle.std.proofs.iter.Serving.{serving}
use Rattle.bytes_wire.specs.Parse.{as_read}
use Rattle.bytes_wire.proofs.Laws.{was, refused_within}
use Rattle.bytes_block.proofs.Blocks.{no_block, code_stop, code_size, code_end, code_some, block_counted, size_block_count}
use Rattle.bytes_block.proofs.read_block.Goals as goal

pub map_err-requires : goal.map_err-requires
map_err-requires c = λ e q.
    let a = c.args in
    let t = drop a.at a.s.now in
    let h = refused_within as_read (rw c.behind-t.ensures at c.block_count.ensures) (size_block_count a.m a.total t) q in
    let k = length-drop a.at a.s.now in
    grind (serving, arith, h, k, c.requires.0)

pub returns-in_err-n : goal.returns-in_err-n
returns-in_err-n c =
    let a = c.args in
    no_block a.m a.b a.total a.at a.first a.s.now a.seen.now a.facts.now a.facts.now (search (rules, of_calls))
    (rw c.behind-t.ensures at c.block_count.ensures)

pub overflow_add-at : goal.overflow_add-at
overflow_add-at c =
    let a = c.args in
    let t = drop a.at a.s.now in
    let q : c.block_count.result ≡ Ok c.in_ok-n.n = search rules in
    let v = block_counted a.m a.total t (sym (was as_read (rw c.behind-t.ensures at c.block_count.ensures) q)) in
    omega (arith, v.size, v.there, length-drop a.at a.s.now, c.requires.0)

pub instruction_rows-requires : goal.instruction_rows-requires
instruction_rows-requires c =
    let a = c.args in
    let t = drop a.at a.s.now in
    let q : c.block_count.result ≡ Ok c.in_ok-n.n = search rules in
    let v = block_counted a.m a.total t (sym (was as_read (rw c.behind-t.ensures at c.block_count.ensures) q)) in
    (omega (arith, v.size, v.there, length-drop a.at a.s.now, c.requires.0), omega (arith, c.requires.1, v.own))

pub returns-in_err-code : goal.returns-in_err-code
returns-in_err-code c =
    let a = c.args in
    let q : c.block_count.result ≡ Ok c.in_ok-n.n = search rules in
    let p : c.instruction_rows.result ≡ Err c.in_err-code.field-0.0 = search rules in
    let z : c.from_residual-in_err-code.result ≡ Err c.in_err-code.field-0.0 = search rules in
    rw z (code_stop a.m a.b a.total a.at a.first a.s.now a.seen.now a.facts.now _ (sym (was as_read (rw c.behind-t.ensures at c.block_count.ensures) q)) _ _ _ c.instruction_rows.ensures p)

pub terminator_row-requires : goal.terminator_row-requires
terminator_row-requires c =
    let a = c.args in
    let t = drop a.at a.s.now in
    let q : c.block_count.result ≡ Ok c.in_ok-n.n = search rules in
    let p : c.instruction_rows.result ≡ Ok c.in_ok-code.code = search rules in
    let v = block_counted a.m a.total t (sym (was as_read (rw c.behind-t.ensures at c.block_count.ensures) q)) in
    code_size a.m a.b a.total a.at a.first a.s.now a.seen.now a.facts.now a.facts.now (sym (was as_read (rw c.behind-t.ensures at c.block_count.ensures) q)) _ _ _ c.instruction_rows.ensures p
    (omega (arith, v.size, v.there, length-drop a.at a.s.now, c.requires.0))

pub returns-in_err-end : goal.returns-in_err-end
returns-in_err-end c =
    let a = c.args in
    let q : c.block_count.result ≡ Ok c.in_ok-n.n = search rules in
    let p : c.instruction_rows.result ≡ Ok c.in_ok-code.code = search rules in
    let o : c.terminator_row.result ≡ Err c.in_err-end.field-0.0 = search rules in
    let z : c.from_residual-in_err-end.result ≡ Err c.in_err-end.field-0.0 = search rules in
    rw z (code_end a.m a.b a.total a.at a.first a.s.now a.seen.now a.facts.now _ (sym (was as_read (rw c.behind-t.ensures at c.block_count.ensures) q)) _ _ _ c.instruction_rows.ensures p _ c.terminator_row.ensures o)

pub returns : goal.returns
returns c =
    let a = c.args in
    let q : c.block_count.result ≡ Ok c.in_ok-n.n = search rules in
    let p : c.instruction_rows.result ≡ Ok c.in_ok-code.code = search rules in
    let o : c.terminator_row.result ≡ Ok c.in_ok-end.end = search rules in
    code_some a.m a.b a.total a.at a.first a.s.now a.seen.now a.facts.now _ (sym (was as_read (rw c.behind-t.ensures at c.block_count.ensures) q)) _ _ _ c.instruction_rows.ensures p _ c.terminator_row.ensures o
