use Rattle.std.proofs.Common.{arith, ◌∙◌, ◌≡◌, sym, rules, of_calls, Ok}
use Rattle.std.proofs.iter.Serving.{serving}
use Rattle.bytes_wire.specs.Parse.{as_read, as_parse}
use Rattle.bytes_wire.specs.Number.{u16_of}
use Rattle.bytes_field.specs.Walk.{part_used}
use Rattle.bytes_wire.proofs.Laws.{told, there, was, behind_bad, refused_within, size_number}
use Rattle.bytes_types.proofs.Fields.{struct_name, struct_uncounted, struct_long, struct_some}
use Rattle.bytes_field.proofs.Sizes.{size_count}
use Rattle.bytes_types.proofs.struct_type.Goals as goal

pub map_err-requires : goal.map_err-requires
map_err-requires c = λ e q.
    let h = refused_within as_read c.read_u16.ensures (size_number 2 _) q in
    grind (serving, arith, h, c.requires)

pub returns-in_err-map_err : goal.returns-in_err-map_err
returns-in_err-map_err c =
    let a = c.args in
    behind_bad as_read part_used 1 (search (rules, of_calls)) (there as_parse u16_of 1 a.s.now c.read_u16.ensures)
    (λ k o e. struct_name a.most a.own a.s.now e)

pub map_err-requires-2 : goal.map_err-requires-2
map_err-requires-2 c = λ e q.
    let h = refused_within as_read c.list_count.ensures (size_count c.args.most _) q in
    grind (serving, arith, h, c.requires)

pub returns-in_err-count : goal.returns-in_err-count
returns-in_err-count c =
    let a = c.args in
    let q : c.read_u16.result ≡ Ok c.in_ok-map_err.field-0 = search rules in
    behind_bad as_read part_used 3 (search (rules, of_calls)) (rw c.behind-counted.ensures at c.list_count.ensures)
    (λ k o e. struct_uncounted a.most a.own a.s.now (told as_parse u16_of 1 a.s.now c.read_u16.ensures q) e)

pub struct_fields-requires : goal.struct_fields-requires
struct_fields-requires c =
    let q : c.list_count.result ≡ Ok c.in_ok-count.count = search rules in
    struct_long c.args.most c.args.own c.args.s.now (sym (was as_read (rw c.behind-counted.ensures at c.list_count.ensures) q))

pub returns : goal.returns
returns c =
    let a = c.args in
    let q : c.read_u16.result ≡ Ok c.in_ok-map_err.field-0 = search rules in
    let p : c.list_count.result ≡ Ok c.in_ok-count.count = search rules in
    c.struct_fields.ensures ∙ struct_some a.most a.own a.s.now (told as_parse u16_of 1 a.s.now c.read_u16.ensures q)
    (sym (was as_read (rw c.behind-counted.ensures at c.list_count.ensures) p))
