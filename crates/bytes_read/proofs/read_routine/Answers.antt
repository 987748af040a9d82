use Rattle.std.proofs.Common.{arith, ◌≡◌, rules, of_calls, Ok}
use Rattle.std.proofs.iter.Serving.{serving}
use Rattle.bytes_sections.specs.Decode.{mosts}
use Rattle.bytes_sections.proofs.Whole.{tabled, fitted, sizes_size, whole_types, whole_sizes, whole_body}
use Rattle.bytes_laws_whole.proofs.Whole.{whole_short}
use Rattle.bytes_read.proofs.read_routine.Goals as goal

pub returns-in_err-at : goal.returns-in_err-at
returns-in_err-at c = whole_types c.args.s.now c.read_types.ensures (search rules)

pub slice_bounds-read_sizes-count : goal.slice_bounds-read_sizes-count
slice_bounds-read_sizes-count c =
    let a = c.args in
    let x : c.read_types.result ≡ Ok c.in_ok-at.at = search rules in
    let u = tabled a.s.now c.read_types.ensures x in
    omega (arith, u.in_s)

pub slice_bounds-read_sizes-start : goal.slice_bounds-read_sizes-start
slice_bounds-read_sizes-start c =
    let a = c.args in
    let x : c.read_types.result ≡ Ok c.in_ok-at.at = search rules in
    let u = tabled a.s.now c.read_types.ensures x in
    omega (arith, u.in_s)

pub map_err-requires : goal.map_err-requires
map_err-requires c = λ e q.
    let a = c.args in
    let x : c.read_types.result ≡ Ok c.in_ok-at.at = search rules in
    let u = tabled a.s.now c.read_types.ensures x in
    let h = sizes_size mosts a.s.now c.in_ok-at.at u.in_s c.read_sizes.ensures q in
    grind (serving, arith, h)

pub returns-in_err-sizes : goal.returns-in_err-sizes
returns-in_err-sizes c =
    let a = c.args in
    let x : c.read_types.result ≡ Ok c.in_ok-at.at = search rules in
    let u = tabled a.s.now c.read_types.ensures x in
    whole_sizes a.s.now u c.read_types.ensures.long c.read_sizes.ensures (search (rules, of_calls))

pub overflow_add-at : goal.overflow_add-at
overflow_add-at c =
    let a = c.args in
    let x : c.read_types.result ≡ Ok c.in_ok-at.at = search rules in
    let u = tabled a.s.now c.read_types.ensures x in
    let y : c.read_sizes.result ≡ Ok c.in_ok-sizes.sizes = search rules in
    let v = fitted mosts a.s.now c.in_ok-at.at u.in_s c.read_sizes.ensures y in
    omega (arith, v.in_s)

pub read_body-requires : goal.read_body-requires
read_body-requires c =
    let a = c.args in
    let x : c.read_types.result ≡ Ok c.in_ok-at.at = search rules in
    let u = tabled a.s.now c.read_types.ensures x in
    let y : c.read_sizes.result ≡ Ok c.in_ok-sizes.sizes = search rules in
    let v = fitted mosts a.s.now c.in_ok-at.at u.in_s c.read_sizes.ensures y in
    (v.in_s, v.next, v.blocks, omega (arith, c.read_types.ensures.long, c.requires))

pub returns : goal.returns
returns c =
    let a = c.args in
    let x : c.read_types.result ≡ Ok c.in_ok-at.at = search rules in
    let u = tabled a.s.now c.read_types.ensures x in
    let y : c.read_sizes.result ≡ Ok c.in_ok-sizes.sizes = search rules in
    let v = fitted mosts a.s.now c.in_ok-at.at u.in_s c.read_sizes.ensures y in
    whole_body a.s.now u _ v _ _ _ _ c.u16_at.ensures (search rules) (search rules) (λ r n h e. whole_short a.s.now h e) c.read_body.ensures
