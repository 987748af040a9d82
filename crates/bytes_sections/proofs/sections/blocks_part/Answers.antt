use Rattle.std.proofs.Common.{refl, arith, rules, ◌≡◌, Ok}
use Rattle.bytes_sections.proofs.Coding.{start_kept, coding_start, coding_stop, coding_few, coding_again, coding_done}
use Rattle.bytes_sections.proofs.sections.blocks_part.Goals as goal

pub loop-k-init : goal.loop-k-init
loop-k-init c =
    let a = c.args in
    (refl, refl, coding_start a.b a.at a.s.now a.facts.now _ _ refl c.set_block.ensures a.seen.now c.requires)

pub returns-in_err-x : goal.returns-in_err-x
returns-in_err-x c =
    let a = c.args in
    let l = c.loop-k in
    coding_stop a.b a.at a.s.now a.seen.now _ l.facts l.k l.here l.total l.seen l.invariant.2 c.loop-k-test.true _ _ _ c.read_block.ensures a.facts.now (search rules)

pub overflow_add-total-in-loop-k : goal.overflow_add-total-in-loop-k
overflow_add-total-in-loop-k c =
    let a = c.args in
    let l = c.loop-k in
    let x : c.read_block.result ≡ Ok c.in_ok-x.x = search rules in
    omega (arith, coding_few a.b a.at a.s.now a.seen.now _ l.facts l.k l.here l.total l.seen l.invariant.2 c.loop-k-test.true _ _ _ c.read_block.ensures x)

pub set_block-requires-in-loop-k : goal.set_block-requires-in-loop-k
set_block-requires-in-loop-k c =
    let a = c.args in
    let l = c.loop-k in
    let x : c.read_block.result ≡ Ok c.in_ok-x.x = search rules in
    omega (arith, coding_few a.b a.at a.s.now a.seen.now _ l.facts l.k l.here l.total l.seen l.invariant.2 c.loop-k-test.true _ _ _ c.read_block.ensures x, c.loop-k-test.true, c.requires.1)

pub loop-k-preserved : goal.loop-k-preserved
loop-k-preserved c =
    let a = c.args in
    let l = c.loop-k in
    let x : c.read_block.result ≡ Ok c.in_ok-x.x = search rules in
    let again = coding_again a.b a.at a.s.now a.seen.now _ l.facts l.k l.here l.total l.seen l.invariant.2 c.loop-k-test.true _ _ _
    c.read_block.ensures x _ _ c.requires.1 refl c.set_block-in-loop-k.ensures in
    (cc, cc, again)

pub returns : goal.returns
returns c =
    let a = c.args in
    let l = c.loop-k in
    coding_done a.b a.at a.s.now a.seen.now _ l.facts l.k l.here l.total l.seen l.invariant.2 c.loop-k-test.false a.facts.now
    (start_kept a.b a.at a.s.now a.facts.now _ _ refl c.set_block.ensures)
