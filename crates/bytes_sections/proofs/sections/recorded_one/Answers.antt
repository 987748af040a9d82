use Rattle.std.proofs.Common.{arith, ◌≡◌, rules, Ok}
use Rattle.std.proofs.iter.Serving.{serving}
use Rattle.bytes_wire.specs.Number.{below}
use Rattle.bytes_wire.specs.Parse.{as_read, as_parse}
use Rattle.bytes_wire.proofs.Laws.{told_size, refused_within, size_below}
use Rattle.bytes_sections.proofs.sections.recorded_one.Goals as goal

pub map_err-requires : goal.map_err-requires
map_err-requires c = λ e q.
    let h = refused_within as_read c.read_below.ensures (size_below c.args.types _) q in
    grind (serving, arith, h, c.requires)

pub overflow_add-result : goal.overflow_add-result
overflow_add-result c =
    let a = c.args in
    let q : c.read_below.result ≡ Ok c.in_ok-t.t = search rules in
    omega (arith, told_size as_parse (below a.types) a.here a.s.now (size_below a.types) c.requires c.read_below.ensures q)
