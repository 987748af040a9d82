use Rattle.std.proofs.Common.{arith, ◌∙◌, ◌≡◌, ap, rules, Err}
use Rattle.bytes_wire.specs.Parse.{later}
use Rattle.bytes_field.specs.Walk.{any_many, walk_before, list_walk}
use Rattle.bytes_field.proofs.Sizes.{size_list}
use Rattle.bytes_field.proofs.Laws.{bytes_within}
use Rattle.bytes_field.proofs.Listing.{no_base, place_walked}
use Rattle.bytes_row.proofs.read_place.Goals as goal

pub further-requires : goal.further-requires
further-requires c =
    let a = c.args in
    let g = c.in_ok-p.p in
    let l = c.read_list-r.new in
    let m = any_many a.b.projections in
    let w = walk_before a.seen.now c.read_base.new.buffer g in
    omega (
      arith,
      bytes_within a.s.now g.size c.read_list-r.result l.seen l.buffer (λ t. list_walk a.b m 10 0 w t) c.behind-t.ensures c.read_list-r.ensures
          (λ u. size_list a.b m 10 0 w u),
    )

pub returns-in_err-p : goal.returns-in_err-p
returns-in_err-p c =
    let a = c.args in
    let z : c.from_residual.result ≡ Err c.in_err-p.field-0.0 = search rules in
    rw z (no_base a.b (walk_before a.seen.now a.buffer.now a.before) a.s.now (c.in_err-p.ensures a.seen.now))

pub returns : goal.returns
returns c =
    let a = c.args in
    let g = c.in_ok-p.p in
    let l = c.read_list-r.new in
    let w = walk_before a.seen.now c.read_base.new.buffer g in
    c.further.ensures l.seen l.buffer
    ∙ ap (later g.size) (c.read_list-r.ensures ∙ ap (λ t. list_walk a.b (any_many a.b.projections) 10 0 w t) c.behind-t.ensures)
    ∙ place_walked a.b (walk_before a.seen.now a.buffer.now a.before) a.s.now
    (c.in_ok-p.ensures a.seen.now)
