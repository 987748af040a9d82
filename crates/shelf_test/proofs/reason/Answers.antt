use mathlib.Core.Path.{◌≡◌, ◌∙◌, sym}
use Rattle.mir.specs.Lookup.{types_in}
use Rattle.std.proofs.Common.{rules, Err}
use Rattle.table.proofs.Flags.{none_stands}
use Rattle.shelf_test.proofs.Reasons.{first_passed, of_deep, blocks_written, reason_refused, reason_undropped, reason_4, reason_5, reason_0}
use Rattle.shelf_test.proofs.reason.Goals as goal

pub returns-in_err-input_reason : goal.returns-in_err-input_reason
returns-in_err-input_reason c = λ x w h.
    let z : c.from_residual.result ≡ Err c.in_err-input_reason.field-0.0 = search rules in
    rw z (reason_refused x w _ _ c.in_err-input_reason.was (c.input_reason.ensures x h.input))

pub returns-then-not-any : goal.returns-then-not-any
returns-then-not-any c = λ x w h.
    reason_undropped x w 0 (first_passed x _ _ c.in_ok-input_reason.was (c.input_reason.ensures x h.input))
    (λ v. sym (h.marked v) ∙ none_stands _ c.any.ensures c.if-not-any.true v)

pub returns-then-not-no_deep_store : goal.returns-then-not-no_deep_store
returns-then-not-no_deep_store c = λ x w h.
    reason_4 x w (first_passed x _ _ c.in_ok-input_reason.was (c.input_reason.ensures x h.input))
    (sym c.if-not-no_deep_store.true ∙ of_deep x w.dropped _ (c.no_deep_store.ensures w.dropped h.marked (types_in x) x.blocks h.input.coded))

pub returns-then-not-reads_no_dropped : goal.returns-then-not-reads_no_dropped
returns-then-not-reads_no_dropped c = λ x w h.
    reason_5 x w (first_passed x _ _ c.in_ok-input_reason.was (c.input_reason.ensures x h.input))
    (sym c.if-not-no_deep_store.false ∙ of_deep x w.dropped _ (c.no_deep_store.ensures w.dropped h.marked (types_in x) x.blocks h.input.coded))
    (sym c.if-not-reads_no_dropped.true ∙ c.reads_no_dropped.ensures w.blocks w.dropped (blocks_written h) h.marked)

pub returns : goal.returns
returns c = λ x w h.
    reason_0 x w (first_passed x _ _ c.in_ok-input_reason.was (c.input_reason.ensures x h.input))
    (sym c.if-not-no_deep_store.false ∙ of_deep x w.dropped _ (c.no_deep_store.ensures w.dropped h.marked (types_in x) x.blocks h.input.coded))
    (sym c.if-not-reads_no_dropped.false ∙ c.reads_no_dropped.ensures w.blocks w.dropped (blocks_written h) h.marked)
