use mathlib.Core.Path.{◌∙◌, sym}
use mathlib.Core.List.{[]}
use Rattle.bytes_wire.specs.WellFormed.{FitValue}
use Rattle.mir.specs.declared.Value.{Value}
use Rattle.rewrite_wanted.specs.declared.Asks.{Asks}
use Rattle.rewrite_wanted.proofs.Asking.{unread_stays, untracked_stays, unasked_stays, tracked_build, asked_within, is_read}
use Rattle.rewrite_wanted.proofs.own_wanted.Goals as goal

pub returns-in_err-v : goal.returns-in_err-v
returns-in_err-v c = λ τ S rows e f.
    rw c.from_residual.ensures (unread_stays τ S c.args.x _ (sym c.operand.ensures ∙ c.in_err-v.was))

pub returns-then-not-tracked : goal.returns-then-not-tracked
returns-then-not-tracked c = λ τ S rows e f.
    rw (is_read c.args.x (sym c.operand.ensures ∙ c.in_ok-v.was)) (untracked_stays τ S _ _ (sym (c.tracked.ensures _ _ _ _ S e.rep) ∙ c.if-not-tracked.true))

pub returns-in_err-named : goal.returns-in_err-named
returns-in_err-named c = λ τ S rows e f.
    let z = is_read c.args.x (sym c.operand.ensures ∙ c.in_ok-v.was) in
    let l : FitValue c.args.code.bounds.next (Value.Operand c.in_ok-v.v) = rw z at f in
    rw (c.from_residual-in_err-named.ensures, z) (unasked_stays τ S _ _ (c.in_err-named.ensures τ e.ground l.0))

pub returns : goal.returns
returns c = λ τ S rows e f.
    let a = c.args in
    let z = is_read a.x (sym c.operand.ensures ∙ c.in_ok-v.was) in
    let l : FitValue a.code.bounds.next (Value.Operand c.in_ok-v.v) = rw z at f in
    rw z (tracked_build τ S _ _ _ (sym (c.tracked.ensures _ _ _ _ S e.rep) ∙ c.if-not-tracked.false)
    (c.in_ok-named.ensures τ e.ground l.0) (λ w. asked_within _ _ _ _ τ e.ground [] Asks.Own 0 _ _ w))
