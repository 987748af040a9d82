use Rattle.std.proofs.Common.{rules, of_calls, Ok, get_or, ◌≡◌, ◌≤◌, ◌∙◌, refl}
use Rattle.std.proofs.iter.Serving.{serving}
use Rattle.mir.specs.declared.Value.{Value}
use Rattle.bytes_wire.specs.declared.Cause.{Cause}
use Rattle.bytes_wire.specs.Parse.{as_read, as_parse, later, map_parse, checked}
use Rattle.bytes_wire.specs.Number.{u8_of, u32_of, below}
use Rattle.bytes_wire.specs.Value.{value_of, integer, boolean}
use Rattle.bytes_wire.proofs.read_value.Goals as goal
use native.Mathlib.Omega.{arith}
use borrow.Author.Tests.{le-leb, lt-leb, lt-ltb, le-ltb}
use lib.ListN.{get_or-eq_default}
use lib.Dec.{eqb, ltb}
use Rattle.bytes_wire.specs.ValueKind.{number_of_value_kind}
use Rattle.bytes_wire.proofs.Numbered.{kind_is}
use Rattle.bytes_wire.proofs.Laws.{size_number, size_below, told, told_size, there, behind_as, kind_chooses, refused_within}

pub returns-in_default : goal.returns-in_default
unfolding value_of
returns-in_default c = simp (lt-leb _ _ c.in_default.len_below, c.at.ensures)

pub map_err-requires : goal.map_err-requires
map_err-requires c = λ e q. let h = refused_within as_read c.read_u32.ensures (size_number 4 _) q in grind (serving, arith, h)

pub returns-in_err-x-in-Integer : goal.returns-in_err-x-in-Integer
returns-in_err-x-in-Integer c =
    behind_as as_read as_read (λ d. later 1 (map_parse integer d)) 1 (λ k o. refl) (search (rules, of_calls)) (there as_parse u32_of 1 c.args.s.now c.read_u32.ensures)
    ∙ kind_chooses c.args.next c.args.s.now c.in-len1-up.len_at_least (kind_is number_of_value_kind c.in-Integer.is c.in-Ok.ensures)

pub overflow_add-result : goal.overflow_add-result
overflow_add-result c =
    let e : c.read_u32.result ≡ Ok c.in_ok-x-in-Integer.x = search rules in
    omega (arith, told_size as_parse u32_of 1 c.args.s.now (size_number 4) c.in-len1-up.len_at_least c.read_u32.ensures e)

pub returns-in_ok-x-in-Integer : goal.returns-in_ok-x-in-Integer
unfolding value_of
returns-in_ok-x-in-Integer c =
    let e : c.read_u32.result ≡ Ok c.in_ok-x-in-Integer.x = search rules in
    simp (le-leb _ _ c.in-len1-up.len_at_least, (kind_is number_of_value_kind c.in-Integer.is c.in-Ok.ensures), told as_parse u32_of 1 c.args.s.now c.read_u32.ensures e)

pub map_err-requires-in-Boolean : goal.map_err-requires-in-Boolean
map_err-requires-in-Boolean c = λ e q. let h = refused_within as_read c.read_u8.ensures (size_number 1 _) q in grind (serving, arith, h)

pub returns-in_err-x-in-Boolean : goal.returns-in_err-x-in-Boolean
returns-in_err-x-in-Boolean c =
    behind_as as_read as_read (λ d. later 1 (map_parse boolean (map_parse (λ x. eqb x 1) (checked Cause.Undefined (λ x. ltb x 2) d)))) 1 (λ k o. refl) (search (rules, of_calls)) (there as_parse u8_of 1 c.args.s.now c.read_u8.ensures)
    ∙ kind_chooses c.args.next c.args.s.now c.in-len1-up.len_at_least (kind_is number_of_value_kind c.in-Boolean.is c.in-Ok.ensures)

pub overflow_add-result-then-x-lt2 : goal.overflow_add-result-then-x-lt2
overflow_add-result-then-x-lt2 c =
    let e : c.read_u8.result ≡ Ok c.in_ok-x-in-Boolean.x = search rules in
    omega (arith, told_size as_parse u8_of 1 c.args.s.now (size_number 1) c.in-len1-up.len_at_least c.read_u8.ensures e)

pub returns-then-x-lt2 : goal.returns-then-x-lt2
unfolding value_of
returns-then-x-lt2 c =
    let e : c.read_u8.result ≡ Ok c.in_ok-x-in-Boolean.x = search rules in
    simp (le-leb _ _ c.in-len1-up.len_at_least, (kind_is number_of_value_kind c.in-Boolean.is c.in-Ok.ensures), told as_parse u8_of 1 c.args.s.now c.read_u8.ensures e, lt-ltb _ _ c.if-x-lt2.true)

pub returns-else-x-lt2 : goal.returns-else-x-lt2
unfolding value_of
returns-else-x-lt2 c =
    let e : c.read_u8.result ≡ Ok c.in_ok-x-in-Boolean.x = search rules in
    simp (le-leb _ _ c.in-len1-up.len_at_least, (kind_is number_of_value_kind c.in-Boolean.is c.in-Ok.ensures), told as_parse u8_of 1 c.args.s.now c.read_u8.ensures e, le-ltb _ _ c.if-x-lt2.false, c.at-else-x-lt2.ensures)

pub map_err-requires-in-Operand : goal.map_err-requires-in-Operand
map_err-requires-in-Operand c = λ e q. let h = refused_within as_read c.read_below.ensures (size_below c.args.next _) q in grind (serving, arith, h)

pub returns-in_err-x-in-Operand : goal.returns-in_err-x-in-Operand
returns-in_err-x-in-Operand c =
    behind_as as_read as_read (λ d. later 1 (map_parse Value.Operand (map_parse (λ x. record { 0 = x }) d))) 1 (λ k o. refl)
    (search (rules, of_calls)) (there as_parse (below c.args.next) 1 c.args.s.now c.read_below.ensures)
    ∙ kind_chooses c.args.next c.args.s.now c.in-len1-up.len_at_least (kind_is number_of_value_kind c.in-Operand.is c.in-Ok.ensures)

pub overflow_add-result-in-Operand : goal.overflow_add-result-in-Operand
overflow_add-result-in-Operand c =
    let e : c.read_below.result ≡ Ok c.in_ok-x-in-Operand.x = search rules in
    omega (arith, told_size as_parse (below c.args.next) 1 c.args.s.now (size_below c.args.next) c.in-len1-up.len_at_least c.read_below.ensures e)

pub returns-in_ok-x-in-Operand : goal.returns-in_ok-x-in-Operand
unfolding value_of
returns-in_ok-x-in-Operand c =
    let e : c.read_below.result ≡ Ok c.in_ok-x-in-Operand.x = search rules in
    simp (le-leb _ _ c.in-len1-up.len_at_least, (kind_is number_of_value_kind c.in-Operand.is c.in-Ok.ensures), told as_parse (below c.args.next) 1 c.args.s.now c.read_below.ensures e)

pub returns-in-Unit : goal.returns-in-Unit
unfolding value_of
returns-in-Unit c = simp (le-leb _ _ c.in-len1-up.len_at_least, (kind_is number_of_value_kind c.in-Unit.is c.in-Ok.ensures))

pub returns-in-Error : goal.returns-in-Error
unfolding value_of
returns-in-Error c = simp (le-leb _ _ c.in-len1-up.len_at_least, (kind_is number_of_value_kind c.in-Error.is c.in-Ok.ensures))

pub returns-in_default-try_from : goal.returns-in_default-try_from
unfolding value_of
returns-in_default-try_from c = let h : 5 ≤ get_or c.args.s.now 0 0 = omega arith in
    simp (le-leb _ _ c.in-len1-up.len_at_least, get_or-eq_default, c.at-in_default-try_from.ensures)
