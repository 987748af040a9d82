use Rattle.std.proofs.Common.{arith, zero-le, sym, ◌≡◌, rules, of_calls, Ok}
use Rattle.std.proofs.iter.Serving.{serving}
use Rattle.std.proofs.Math.ListN.{length-drop}
use Rattle.bytes_wire.specs.Parse.{as_read, ok}
use Rattle.bytes_wire.proofs.Laws.{was, refused_within, passed_bad, behind_bad, size_below}
use Rattle.bytes_sections.proofs.SizesOf.{count_read, size_most, sizes_next, sizes_blocks, sizes_entry, sizes_some}
use Rattle.bytes_sections.proofs.sections.read_sizes.Goals as goal

pub returns-in_err-next : goal.returns-in_err-next
returns-in_err-next c =
    passed_bad as_read (λ z. ok z 6) (search rules) c.section_count.ensures (λ k o e. sizes_next c.args.m c.args.s.now e)

pub map_err-requires : goal.map_err-requires
map_err-requires c = λ e q.
    let a = c.args in
    let h = refused_within as_read (rw c.behind-second.ensures at c.section_count-2.ensures) (size_most a.m.blocks _) q in
    let k = length-drop 2 a.s.now in
    grind (serving, arith, h, k)

pub returns-in_err-blocks : goal.returns-in_err-blocks
returns-in_err-blocks c =
    let a = c.args in
    let p = count_read a.m.next a.s.now 0 zero-le (sym (c.in_ok-next.ensures)) in
    behind_bad as_read (λ z. ok z 6) 2 (search (rules, of_calls)) (rw c.behind-second.ensures at c.section_count-2.ensures) (λ k o e. sizes_blocks a.m a.s.now p e)

pub map_err-requires-2 : goal.map_err-requires-2
map_err-requires-2 c = λ e q.
    let a = c.args in
    let h = refused_within as_read (rw c.behind-third.ensures at c.read_below.ensures) (size_below _ _) q in
    let k = length-drop 4 a.s.now in
    grind (serving, arith, h, k)

pub returns-in_err-entry : goal.returns-in_err-entry
returns-in_err-entry c =
    let a = c.args in
    let b : c.section_count-2.result ≡ Ok c.in_ok-blocks.blocks = search rules in
    let p = count_read a.m.next a.s.now 0 zero-le (sym (c.in_ok-next.ensures)) in
    let q = count_read a.m.blocks a.s.now 2 (omega (arith, p.long)) (sym (was as_read (rw c.behind-second.ensures at c.section_count-2.ensures) b)) in
    behind_bad as_read (λ z. ok z 6) 4 (search (rules, of_calls)) (rw c.behind-third.ensures at c.read_below.ensures) (λ k o e. sizes_entry a.m a.s.now p q e)

pub returns : goal.returns
returns c =
    let a = c.args in
    let b : c.section_count-2.result ≡ Ok c.in_ok-blocks.blocks = search rules in
    let e : c.read_below.result ≡ Ok c.in_ok-entry.entry = search rules in
    let p = count_read a.m.next a.s.now 0 zero-le (sym (c.in_ok-next.ensures)) in
    let q = count_read a.m.blocks a.s.now 2 (omega (arith, p.long)) (sym (was as_read (rw c.behind-second.ensures at c.section_count-2.ensures) b)) in
    sizes_some a.m a.s.now p q (sym (was as_read (rw c.behind-third.ensures at c.read_below.ensures) e))
