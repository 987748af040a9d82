use Rattle.std.proofs.Common.{arith, ◌≡◌, sym, refl, rules, of_calls, Ok, Err}
use Rattle.std.proofs.iter.Serving.{serving}
use Rattle.bytes_wire.proofs.Laws.{there, told, told_size}
use Rattle.bytes_types.proofs.Sizes.{size_unit_type}
use Rattle.bytes_types.proofs.Before.{tested}
use Rattle.bytes_types.proofs.Table.{read_bad, count_bad, table_start, table_refused, table_old, table_again, table_done}
use Rattle.bytes_wire.specs.Parse.{map_parse}
use Rattle.bytes_field.specs.Walk.{as_part, unit}
use Rattle.bytes_types.specs.Decode.{type_of}
use Rattle.bytes_types.proofs.read_types.Goals as goal

pub returns-in_err-count : goal.returns-in_err-count
returns-in_err-count c =
    let a = c.args in
    let z : c.from_residual.result ≡ Err c.in_err-count.field-0.0 = search rules in
    rw z (read_bad a.limit a.most a.s.now a.starts.now a.starts.now refl (count_bad a.limit a.most a.s.now (sym (c.in_err-count.ensures))))

pub loop-k-init : goal.loop-k-init
loop-k-init c =
    let a = c.args in
    table_start a.limit a.most a.s.now a.starts.now _ (sym (c.in_ok-count.ensures)) c.requires c.set_place.ensures

pub map_err-requires : goal.map_err-requires
map_err-requires c = λ e q.
    let a = c.args in
    let l = c.loop-k in
    let h = told_size as_part (λ t. map_parse unit (type_of a.most l.k t)) l.at a.s.now (size_unit_type a.most l.k) l.invariant.in_s c.read_type.ensures q in
    grind (serving, arith, h)

pub returns-in_err-size : goal.returns-in_err-size
returns-in_err-size c =
    let a = c.args in
    let l = c.loop-k in
    table_refused a.limit a.most a.s.now _ l.starts c.in_ok-count.count.value l.k l.at l.invariant c.loop-k-test.true a.starts.now
    (search rules) (search (rules, of_calls)) (there as_part (λ t. map_parse unit (type_of a.most l.k t)) l.at a.s.now c.read_type.ensures)

pub overflow_add-end : goal.overflow_add-end
overflow_add-end c =
    let a = c.args in
    let l = c.loop-k in
    let q : c.read_type.result ≡ Ok c.in_ok-size.size = search rules in
    omega (arith, told_size as_part (λ t. map_parse unit (type_of a.most l.k t)) l.at a.s.now (size_unit_type a.most l.k) l.invariant.in_s c.read_type.ensures q)

pub returns-then-type_before : goal.returns-then-type_before
returns-then-type_before c =
    let a = c.args in
    let l = c.loop-k in
    let q : c.read_type.result ≡ Ok c.in_ok-size.size = search rules in
    rw c.at.ensures (read_bad a.limit a.most a.s.now a.starts.now l.starts (search rules)
    (table_old a.limit a.most a.s.now _ l.starts c.in_ok-count.count.value l.k l.at l.invariant c.loop-k-test.true
    (told as_part (λ t. map_parse unit (type_of a.most l.k t)) l.at a.s.now c.read_type.ensures q)
    (λ j. omega (arith, c.type_inv.s j)) c.type_before.result (tested _ _ _ _ _ _ (rw c.between.ensures at c.type_before.ensures)) c.if-type_before.true))

pub loop-k-preserved : goal.loop-k-preserved
loop-k-preserved c =
    let a = c.args in
    let l = c.loop-k in
    let q : c.read_type.result ≡ Ok c.in_ok-size.size = search rules in
    table_again a.limit a.most a.s.now _ l.starts c.in_ok-count.count.value l.k l.at l.invariant c.loop-k-test.true
    (told as_part (λ t. map_parse unit (type_of a.most l.k t)) l.at a.s.now c.read_type.ensures q)
    (λ j. omega (arith, c.type_inv.s j)) c.type_before.result (tested _ _ _ _ _ _ (rw c.between.ensures at c.type_before.ensures)) c.if-type_before.false
    c.requires.1 _ c.set_place-in-loop-k.ensures

pub returns : goal.returns
returns c =
    let a = c.args in
    let l = c.loop-k in
    table_done a.limit a.most a.s.now _ l.starts c.in_ok-count.count.value l.k l.at l.invariant c.loop-k-test.false a.starts.now (search rules)
