use mathlib.Core.Path.{◌∙◌, sym, ap}
use native.Mathlib.Omega.{arith}
use Rattle.mir.specs.Operand.{operand_of}
use Rattle.mir.specs.declared.Value.{Value}
use Rattle.rewrite_parts.specs.Rows.{ValueAt}
use Rattle.rewrite_wanted.proofs.Asking.{unread_stays, untracked_stays, unasked_stays, tracked_build, asked_within, operand_below, is_read}
use Rattle.rewrite_wanted.proofs.wanted_at.Goals as goal

pub returns-in_err-v : goal.returns-in_err-v
returns-in_err-v c = λ τ S rows x e h.
    rw c.from_residual.ensures (unread_stays τ S x _ (ap operand_of (sym (c.value_at.ensures x h)) ∙ sym c.operand.ensures ∙ c.in_err-v.was))

pub returns-then-not-tracked : goal.returns-then-not-tracked
returns-then-not-tracked c = λ τ S rows x e h. rw (sym (c.value_at.ensures x h) ∙ is_read _ (sym c.operand.ensures ∙ c.in_ok-v.was))
    (untracked_stays τ S _ _ (sym (c.tracked.ensures _ _ _ _ S e.rep) ∙ c.if-not-tracked.true))

pub returns : goal.returns
returns c = λ τ S rows x e h.
    let a = c.args in
    let z = sym (c.value_at.ensures x h) ∙ is_read _ (sym c.operand.ensures ∙ c.in_ok-v.was) in
    let y : ValueAt _ _ _ (Value.Operand _) = rw z at h in
    let l = operand_below _ _ _ _ (λ j. omega (arith, c.type_inv.t j)) e.ground.few y in
    rw z (tracked_build τ S _ _ _ (sym (c.tracked.ensures _ _ _ _ S e.rep) ∙ c.if-not-tracked.false)
    (c.in_ok-named.ensures τ e.ground l) (λ w. asked_within _ _ _ _ τ e.ground a.t.now a.asks a.i _ _ w))

pub returns-in_err-named : goal.returns-in_err-named
returns-in_err-named c = λ τ S rows x e h.
    let z = sym (c.value_at.ensures x h) ∙ is_read _ (sym c.operand.ensures ∙ c.in_ok-v.was) in
    let y : ValueAt _ _ _ (Value.Operand _) = rw z at h in
    let l = operand_below _ _ _ _ (λ j. omega (arith, c.type_inv.t j)) e.ground.few y in
    rw (c.from_residual-in_err-named.ensures, z) (unasked_stays τ S _ _ (c.in_err-named.ensures τ e.ground l))
