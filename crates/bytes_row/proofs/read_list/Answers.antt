use Rattle.std.proofs.Common.{arith, ◌∙◌, ◌≡◌, sym, rules, Err}
use borrow.Author.Tests.{not-true, not-false}
use Rattle.bytes_field.proofs.Sizes.{size_pair}
use Rattle.bytes_field.proofs.Laws.{again, done, stepped, bytes_within}
use Rattle.bytes_field.proofs.Listing.{no_count, count_other, elements}
use Rattle.bytes_field.specs.Walk.{walk_before, pair_walk, first_of, second_of}
use Rattle.bytes_row.specs.Class.{number_of_list}
use Rattle.bytes_row.proofs.read_list.Goals as goal

pub returns-then-miscounts : goal.returns-then-miscounts
returns-then-miscounts c =
    let a = c.args in
    rw c.at.ensures (count_other a.b a.l (first_of (number_of_list a.k)) (second_of (number_of_list a.k)) (walk_before a.seen.now a.buffer.now a.before) a.s.now
    (sym (c.in_ok-count.ensures)) (not-true _ (sym c.miscounts.ensures ∙ c.if-miscounts.true)))

pub further-requires : goal.further-requires
further-requires c =
    let a = c.args in
    let o = c.loop-i in
    let l = c.read_element-r.new in
    let w = walk_before o.seen o.buffer o.w in
    omega (
      arith,
      bytes_within a.s.now o.w.size c.read_element-r.result l.seen l.buffer (λ t. pair_walk a.b (first_of (number_of_list a.k)) (second_of (number_of_list a.k)) w t)
          c.behind-t.ensures c.read_element-r.ensures (λ t. size_pair a.b (first_of (number_of_list a.k)) (second_of (number_of_list a.k)) w t),
    )

pub returns-in_err-count : goal.returns-in_err-count
returns-in_err-count c =
    let a = c.args in
    let z : c.from_residual.result ≡ Err c.in_err-count.field-0.0 = search rules in
    rw z (no_count a.b a.l (first_of (number_of_list a.k)) (second_of (number_of_list a.k)) (walk_before a.seen.now a.buffer.now a.before) a.s.now (sym (c.in_err-count.ensures)))

pub returns-in_err-w : goal.returns-in_err-w
returns-in_err-w c =
    let a = c.args in
    let o = c.loop-i in
    let l = c.read_element-r.new in
    let z : c.from_residual-in_err-w.result ≡ Err c.in_err-w.field-0.0 = search rules in
    rw z (sym (again _ _ _ _ _ _ o.invariant.3 _ c.loop-i-test.true (stepped a.s.now o.w.size (λ t. pair_walk a.b (first_of (number_of_list a.k)) (second_of (number_of_list a.k))
    (walk_before o.seen o.buffer o.w) t) l.seen l.buffer c.read_element-r.result c.behind-t.ensures c.read_element-r.ensures
    (c.in_err-w.ensures l.seen l.buffer))).left
    ∙ elements a.b a.l (first_of (number_of_list a.k)) (second_of (number_of_list a.k)) (walk_before a.seen.now a.buffer.now a.before) a.s.now (sym (c.in_ok-count.ensures))
    (not-false _ (sym c.miscounts.ensures ∙ c.if-miscounts.false)))

pub loop-i-preserved : goal.loop-i-preserved
loop-i-preserved c =
    let a = c.args in
    let o = c.loop-i in
    let l = c.read_element-r.new in (
      search rules,
      search rules,
      search rules,
      again _ _ _ _ _ _ o.invariant.3 _ c.loop-i-test.true (stepped a.s.now o.w.size (λ t. pair_walk a.b (first_of (number_of_list a.k)) (second_of (number_of_list a.k))
          (walk_before o.seen o.buffer o.w) t) l.seen l.buffer c.read_element-r.result c.behind-t.ensures c.read_element-r.ensures
          (c.in_ok-w.ensures l.seen l.buffer)),
    )

pub returns : goal.returns
returns c =
    let a = c.args in
    done _ _ _ _ _ _ c.loop-i.invariant.3 c.loop-i-test.false
    ∙ elements a.b a.l (first_of (number_of_list a.k)) (second_of (number_of_list a.k)) (walk_before a.seen.now a.buffer.now a.before) a.s.now (sym (c.in_ok-count.ensures))
    (not-false _ (sym c.miscounts.ensures ∙ c.if-miscounts.false))
