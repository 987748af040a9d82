use Rattle.std.proofs.Common.{◌+◌, ◌≡◌, arith, rules, of_calls, Ok}
use Rattle.std.proofs.iter.Serving.{serving}
use Rattle.bytes_sections.proofs.Body.{marked, parameters_size, mapped, map_size, typed, coded, body_parameters, body_map, body_types}
use Rattle.bytes_sections.proofs.Body.{body_code, body_trailing, body_accepted}
use Rattle.bytes_read.proofs.read_marked.Goals as goal

pub map_err-requires : goal.map_err-requires
map_err-requires c = λ e q.
    let a = c.args in
    let h = parameters_size a.b a.s.now a.at c.requires.0 c.parameters_part.ensures q in
    grind (serving, arith, h)

pub returns-in_err-parameters : goal.returns-in_err-parameters
returns-in_err-parameters c =
    let a = c.args in
    body_parameters a.b a.s.now a.at c.requires.1 c.parameters_part.ensures (search (rules, of_calls))

pub overflow_add-map : goal.overflow_add-map
overflow_add-map c =
    let a = c.args in
    let x : c.parameters_part.result ≡ Ok c.in_ok-parameters.parameters = search rules in
    let u = marked a.b a.s.now a.at c.requires.0 c.requires.1 c.parameters_part.ensures x in
    omega (arith, u.in_s)

pub slice_bounds-map_part-count : goal.slice_bounds-map_part-count
slice_bounds-map_part-count c =
    let a = c.args in
    let x : c.parameters_part.result ≡ Ok c.in_ok-parameters.parameters = search rules in
    let u = marked a.b a.s.now a.at c.requires.0 c.requires.1 c.parameters_part.ensures x in
    omega (arith, u.in_s)

pub slice_bounds-map_part-start : goal.slice_bounds-map_part-start
slice_bounds-map_part-start c =
    let a = c.args in
    let x : c.parameters_part.result ≡ Ok c.in_ok-parameters.parameters = search rules in
    let u = marked a.b a.s.now a.at c.requires.0 c.requires.1 c.parameters_part.ensures x in
    omega (arith, u.in_s)

pub map_err-requires-2 : goal.map_err-requires-2
map_err-requires-2 c = λ e q.
    let a = c.args in
    let x : c.parameters_part.result ≡ Ok c.in_ok-parameters.parameters = search rules in
    let u = marked a.b a.s.now a.at c.requires.0 c.requires.1 c.parameters_part.ensures x in
    let h = map_size a.b.next a.s.now (a.at + c.in_ok-parameters.parameters) u.in_s c.map_part.ensures q in
    grind (serving, arith, h)

pub returns-in_err-bits : goal.returns-in_err-bits
returns-in_err-bits c =
    let a = c.args in
    let x : c.parameters_part.result ≡ Ok c.in_ok-parameters.parameters = search rules in
    let u = marked a.b a.s.now a.at c.requires.0 c.requires.1 c.parameters_part.ensures x in
    body_map a.b a.s.now a.at u c.map_part.ensures (search (rules, of_calls))

pub overflow_add-map-2 : goal.overflow_add-map-2
overflow_add-map-2 c =
    let a = c.args in
    let x : c.parameters_part.result ≡ Ok c.in_ok-parameters.parameters = search rules in
    let u = marked a.b a.s.now a.at c.requires.0 c.requires.1 c.parameters_part.ensures x in
    let y : c.map_part.result ≡ Ok c.in_ok-bits.bits = search rules in
    let v = mapped a.b.next a.s.now (a.at + c.in_ok-parameters.parameters) u.in_s c.map_part.ensures y in
    omega (arith, v.in_s)

pub recorded_part-requires : goal.recorded_part-requires
recorded_part-requires c =
    let a = c.args in
    let x : c.parameters_part.result ≡ Ok c.in_ok-parameters.parameters = search rules in
    let u = marked a.b a.s.now a.at c.requires.0 c.requires.1 c.parameters_part.ensures x in
    let y : c.map_part.result ≡ Ok c.in_ok-bits.bits = search rules in
    let v = mapped a.b.next a.s.now (a.at + c.in_ok-parameters.parameters) u.in_s c.map_part.ensures y in
    v.in_s

pub returns-in_err-code : goal.returns-in_err-code
returns-in_err-code c =
    let a = c.args in
    let x : c.parameters_part.result ≡ Ok c.in_ok-parameters.parameters = search rules in
    let u = marked a.b a.s.now a.at c.requires.0 c.requires.1 c.parameters_part.ensures x in
    let y : c.map_part.result ≡ Ok c.in_ok-bits.bits = search rules in
    let v = mapped a.b.next a.s.now (a.at + c.in_ok-parameters.parameters) u.in_s c.map_part.ensures y in
    body_types a.b a.s.now a.at u v c.recorded_part.ensures (search rules)

pub blocks_part-requires : goal.blocks_part-requires
blocks_part-requires c =
    let a = c.args in
    let x : c.parameters_part.result ≡ Ok c.in_ok-parameters.parameters = search rules in
    let u = marked a.b a.s.now a.at c.requires.0 c.requires.1 c.parameters_part.ensures x in
    let y : c.map_part.result ≡ Ok c.in_ok-bits.bits = search rules in
    let v = mapped a.b.next a.s.now (a.at + c.in_ok-parameters.parameters) u.in_s c.map_part.ensures y in
    let z : c.recorded_part.result ≡ Ok c.in_ok-code.code = search rules in
    let w = typed a.b.types a.b.next a.s.now (a.at + c.in_ok-parameters.parameters) (a.at + c.in_ok-parameters.parameters + c.in_ok-bits.bits) v v.in_s
    c.recorded_part.ensures z in
    (w.in_s, c.requires.3, omega (arith, w.kept.long, c.requires.4))

pub returns-in_err-end : goal.returns-in_err-end
returns-in_err-end c =
    let a = c.args in
    let x : c.parameters_part.result ≡ Ok c.in_ok-parameters.parameters = search rules in
    let u = marked a.b a.s.now a.at c.requires.0 c.requires.1 c.parameters_part.ensures x in
    let y : c.map_part.result ≡ Ok c.in_ok-bits.bits = search rules in
    let v = mapped a.b.next a.s.now (a.at + c.in_ok-parameters.parameters) u.in_s c.map_part.ensures y in
    let z : c.recorded_part.result ≡ Ok c.in_ok-code.code = search rules in
    let w = typed a.b.types a.b.next a.s.now (a.at + c.in_ok-parameters.parameters) (a.at + c.in_ok-parameters.parameters + c.in_ok-bits.bits) v v.in_s
    c.recorded_part.ensures z in
    body_code a.b a.s.now a.at u v w c.blocks_part.ensures (search rules)

pub returns-then-end-s : goal.returns-then-end-s
returns-then-end-s c =
    let a = c.args in
    let x : c.parameters_part.result ≡ Ok c.in_ok-parameters.parameters = search rules in
    let u = marked a.b a.s.now a.at c.requires.0 c.requires.1 c.parameters_part.ensures x in
    let y : c.map_part.result ≡ Ok c.in_ok-bits.bits = search rules in
    let v = mapped a.b.next a.s.now (a.at + c.in_ok-parameters.parameters) u.in_s c.map_part.ensures y in
    let z : c.recorded_part.result ≡ Ok c.in_ok-code.code = search rules in
    let w = typed a.b.types a.b.next a.s.now (a.at + c.in_ok-parameters.parameters) (a.at + c.in_ok-parameters.parameters + c.in_ok-bits.bits) v v.in_s
    c.recorded_part.ensures z in
    let o : c.blocks_part.result ≡ Ok c.in_ok-end.end = search rules in
    let k = coded a.b a.s.now c.in_ok-code.code u w.in_s c.blocks_part.ensures o in
    body_trailing a.b a.s.now a.at u v w k c.at.ensures c.if-end-s.true

pub returns : goal.returns
returns c =
    let a = c.args in
    let x : c.parameters_part.result ≡ Ok c.in_ok-parameters.parameters = search rules in
    let u = marked a.b a.s.now a.at c.requires.0 c.requires.1 c.parameters_part.ensures x in
    let y : c.map_part.result ≡ Ok c.in_ok-bits.bits = search rules in
    let v = mapped a.b.next a.s.now (a.at + c.in_ok-parameters.parameters) u.in_s c.map_part.ensures y in
    let z : c.recorded_part.result ≡ Ok c.in_ok-code.code = search rules in
    let w = typed a.b.types a.b.next a.s.now (a.at + c.in_ok-parameters.parameters) (a.at + c.in_ok-parameters.parameters + c.in_ok-bits.bits) v v.in_s
    c.recorded_part.ensures z in
    let o : c.blocks_part.result ≡ Ok c.in_ok-end.end = search rules in
    let k = coded a.b a.s.now c.in_ok-code.code u w.in_s c.blocks_part.ensures o in
    body_accepted a.b a.s.now a.at u v w k c.requires.2 c.if-end-s.false
