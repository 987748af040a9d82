use mathlib.Core.Path.{◌∙◌, sym}
use native.Mathlib.Omega.{arith}
use Rattle.shelf_reason5.proofs.Walk.{count_within, walk_start, no_count, walk_reads, walk_again, walk_done}
use Rattle.shelf_reason5.proofs.Output.walk_block.Goals as goal

pub returns-in_err-count : goal.returns-in_err-count
returns-in_err-count c = λ x rest e f.
    let a = c.args in
    c.from_residual.ensures
    ∙ no_count a.self.bounds a.self.bytes.now a.at a.self.dropped.now c.read_u16.result c.read_u16.ensures c.behind.ensures (sym c.ok.ensures.value ∙ c.in_err-count.was) x rest e f

pub overflow_add-here : goal.overflow_add-here
overflow_add-here c =
    let a = c.args in
    omega (arith, count_within a.self.bounds a.self.bytes.now a.at a.self.dropped.now c.read_u16.result c.read_u16.ensures c.behind.ensures (sym c.ok.ensures.value ∙ c.in_ok-count.was))

pub loop-k-init : goal.loop-k-init
loop-k-init c =
    let a = c.args in
    walk_start a.self.bounds a.self.bytes.now a.at a.self.dropped.now c.read_u16.result c.read_u16.ensures c.behind.ensures (sym c.ok.ensures.value ∙ c.in_ok-count.was)

pub returns-in_err-here : goal.returns-in_err-here
returns-in_err-here c = λ x rest e f.
    let a = c.args in
    let l = c.loop-k in
    c.from_residual-in_err-here.ensures
    ∙ walk_reads a.self.bounds a.self.bytes.now a.at a.self.dropped.now _ l.k l.here l.invariant c.loop-k-test.true _ c.walk_instruction.ensures c.in_err-here.was x rest e f

pub loop-k-preserved : goal.loop-k-preserved
loop-k-preserved c =
    let a = c.args in
    let l = c.loop-k in
    walk_again a.self.bounds a.self.bytes.now a.at a.self.dropped.now _ l.k l.here l.invariant c.loop-k-test.true _ c.walk_instruction.ensures _ c.in_ok-here.was

pub returns : goal.returns
returns c =
    let a = c.args in
    let l = c.loop-k in
    walk_done a.self.bounds a.self.bytes.now a.at a.self.dropped.now _ l.k l.here l.invariant c.loop-k-test.false _ c.walk_terminator.ensures
