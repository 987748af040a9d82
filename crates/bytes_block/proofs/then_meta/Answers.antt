use Rattle.std.proofs.Common.{refl, rules, ◌≡◌, Err}
use Rattle.bytes_block.proofs.Meta.{meta_numbers, no_numbers}
use Rattle.bytes_field.specs.Walk.{scanned}
use Rattle.bytes_block.proofs.then_meta.Goals as goal

pub returns-then-bits-eq0 : goal.returns-then-bits-eq0
returns-then-bits-eq0 c = λ seen buffer. no_numbers c.args.s.now c.args.bits (scanned seen buffer c.args.p) c.if-bits-eq0.true

pub returns-in_err-start : goal.returns-in_err-start
returns-in_err-start c =
    λ seen buffer. let z : c.from_residual.result ≡ Err c.in_err-start.field-0.0 = search rules in
    rw z (meta_numbers c.args.s.now c.args.bits (scanned seen buffer c.args.p) c.bit-span.ensures c.bit-expression.ensures
    c.bit-comment.ensures (c.in_err-start.ensures seen buffer) refl refl refl refl)

pub returns-in_err-stop : goal.returns-in_err-stop
returns-in_err-stop c =
    λ seen buffer. let z : c.from_residual-in_err-stop.result ≡ Err c.in_err-stop.field-0.0 = search rules in
    rw z (meta_numbers c.args.s.now c.args.bits (scanned seen buffer c.args.p) c.bit-span.ensures c.bit-expression.ensures
    c.bit-comment.ensures (c.in_ok-start.ensures seen buffer) (c.in_err-stop.ensures seen buffer) refl refl refl)

pub returns-in_err-index : goal.returns-in_err-index
returns-in_err-index c =
    λ seen buffer. let z : c.from_residual-in_err-index.result ≡ Err c.in_err-index.field-0.0 = search rules in
    rw z (meta_numbers c.args.s.now c.args.bits (scanned seen buffer c.args.p) c.bit-span.ensures c.bit-expression.ensures
    c.bit-comment.ensures (c.in_ok-start.ensures seen buffer) (c.in_ok-stop.ensures seen buffer) (c.in_err-index.ensures seen buffer) refl refl)

pub returns-in_err-file : goal.returns-in_err-file
returns-in_err-file c =
    λ seen buffer. let z : c.from_residual-in_err-file.result ≡ Err c.in_err-file.field-0.0 = search rules in
    rw z (meta_numbers c.args.s.now c.args.bits (scanned seen buffer c.args.p) c.bit-span.ensures c.bit-expression.ensures
    c.bit-comment.ensures (c.in_ok-start.ensures seen buffer) (c.in_ok-stop.ensures seen buffer) (c.in_ok-index.ensures seen buffer) (c.in_err-file.ensures seen buffer) refl)

pub returns : goal.returns
returns c =
    λ seen buffer. meta_numbers c.args.s.now c.args.bits (scanned seen buffer c.args.p) c.bit-span.ensures c.bit-expression.ensures
    c.bit-comment.ensures (c.in_ok-start.ensures seen buffer) (c.in_ok-stop.ensures seen buffer) (c.in_ok-index.ensures seen buffer) (c.in_ok-file.ensures seen buffer)
    (c.then_number-5.ensures seen buffer)
