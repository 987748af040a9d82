use Rattle.std.proofs.Common.{drop, ◌≡◌, rules, Err}
use Rattle.bytes_sections.proofs.Recording.{recording_stop, recording_again, recording_done}
use Rattle.bytes_sections.proofs.sections.recorded_part.Goals as goal

pub returns-in_err-here : goal.returns-in_err-here
returns-in_err-here c =
    let a = c.args in
    let l = c.loop-v in
    let z : c.from_residual.result ≡ Err c.in_err-here.field-0.0 = search rules in
    rw z (recording_stop a.types (drop a.map a.s.now) a.next a.at a.s.now a.facts.now l.facts l.v l.here l.invariant c.loop-v-test.true
    (c.in_err-here.ensures))

pub loop-v-preserved : goal.loop-v-preserved
loop-v-preserved c =
    let a = c.args in
    let l = c.loop-v in
    recording_again a.types (drop a.map a.s.now) a.next a.at a.s.now a.facts.now l.facts l.v l.here l.invariant c.loop-v-test.true
    (c.in_ok-here.ensures)

pub returns : goal.returns
returns c =
    let a = c.args in
    let l = c.loop-v in
    recording_done a.types (drop a.map a.s.now) a.next a.at a.s.now a.facts.now l.facts l.v l.here l.invariant c.loop-v-test.false
