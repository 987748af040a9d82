use Rattle.std.proofs.Common.{arith, ◌∙◌, ◌≡◌, sym, ◌+◌, ◌*◌, rules, of_calls, Ok}
use Rattle.std.proofs.iter.Serving.{serving}
use Rattle.bytes_wire.specs.Parse.{as_read, as_parse}
use Rattle.bytes_wire.specs.Number.{u16_of, below}
use Rattle.bytes_wire.proofs.Laws.{told, told_size, there, behind_bad, refused_within, size_number, size_below}
use Rattle.bytes_types.proofs.Fields.{two_left, field_no_type, field_some}
use Rattle.bytes_field.specs.Walk.{part_used}
use Rattle.bytes_before.specs.Before.{names_at}
use Rattle.bytes_types.proofs.struct_field.Goals as goal

pub map_err-requires : goal.map_err-requires
map_err-requires c = λ e q.
    let h = refused_within as_read c.read_u16.ensures (size_number 2 _) q in
    grind (serving, arith, h, c.requires)

pub slice_bounds-read_below-count : goal.slice_bounds-read_below-count
slice_bounds-read_below-count c =
    let a = c.args in
    let s = a.s.now in
    let at = a.from + 4 * a.i in
    let q : c.read_u16.result ≡ Ok c.in_ok-x.x = search rules in
    two_left s at c.requires (told as_parse u16_of at s c.read_u16.ensures q)

pub slice_bounds-read_below-start : goal.slice_bounds-read_below-start
slice_bounds-read_below-start c =
    let a = c.args in
    let s = a.s.now in
    let at = a.from + 4 * a.i in
    let q : c.read_u16.result ≡ Ok c.in_ok-x.x = search rules in
    two_left s at c.requires (told as_parse u16_of at s c.read_u16.ensures q)

pub map_err-requires-2 : goal.map_err-requires-2
map_err-requires-2 c = λ e p.
    let h = refused_within as_read c.read_below.ensures (size_below c.args.own _) p in
    grind (serving, arith, h, c.requires)

pub returns-in_err-t : goal.returns-in_err-t
returns-in_err-t c =
    let a = c.args in
    let s = a.s.now in
    let at = a.from + 4 * a.i in
    let q : c.read_u16.result ≡ Ok c.in_ok-x.x = search rules in
    behind_bad as_read part_used (at + 2) (search (rules, of_calls)) (there as_parse (below a.own) (at + 2) s c.read_below.ensures)
    (λ k o e. field_no_type a.own (names_at s a.from a.i) s at (told as_parse u16_of at s c.read_u16.ensures q) (sym c.name_before.ensures ∙ c.if-name_before.false) e)

pub overflow_add-result : goal.overflow_add-result
overflow_add-result c =
    let a = c.args in
    let s = a.s.now in
    let at = a.from + 4 * a.i in
    let q : c.read_u16.result ≡ Ok c.in_ok-x.x = search rules in
    let p : c.read_below.result ≡ Ok c.in_ok-t.t = search rules in
    omega (arith, told_size as_parse (below a.own) (at + 2) s (size_below a.own) (two_left s at c.requires (told as_parse u16_of at s c.read_u16.ensures q)) c.read_below.ensures p)

pub returns : goal.returns
returns c =
    let a = c.args in
    let s = a.s.now in
    let at = a.from + 4 * a.i in
    let q : c.read_u16.result ≡ Ok c.in_ok-x.x = search rules in
    let p : c.read_below.result ≡ Ok c.in_ok-t.t = search rules in
    field_some a.own (names_at s a.from a.i) s at (told as_parse u16_of at s c.read_u16.ensures q) (sym c.name_before.ensures ∙ c.if-name_before.false)
    (told as_parse (below a.own) (at + 2) s c.read_below.ensures p)
