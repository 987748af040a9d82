use Rattle.std.proofs.Common.{arith, ◌≡◌}
use Rattle.mir.specs.declared.Value.{Value}
use Rattle.rewrite.specs.State.{state_of}
use Rattle.rewrite_arms.proofs.Sources.{operand_is}
use Rattle.rewrite_arms.proofs.Structs.{field_none, field_unknown, field_known}
use Rattle.rewrite_arms.proofs.field_part.Goals as goal

pub returns-in_err-v : goal.returns-in_err-v
returns-in_err-v c = λ τ used S g w r. rw c.from_residual.ensures (field_none τ _ _ _ c.in_err-v.ensures)

pub returns-in_err-found : goal.returns-in_err-found
returns-in_err-found c =
    λ τ used S g w r.
    let x : c.args.x ≡ Value.Operand c.in_ok-v.v = operand_is _ c.in_ok-v.ensures in
    rw c.from_residual-in_err-found.ensures
    (field_unknown τ _ _ _ x
    (c.in_err-found.ensures c.args.code.bounds.list τ (rw (c.typing.ensures.code, c.typing.ensures.recorded) g.known) (rw c.typing.ensures.code g.rows) (omega (arith, g.values, w.each _ x))))

pub returns : goal.returns
unfolding state_of
returns c =
    λ τ used S g w r.
    let x : c.args.x ≡ Value.Operand c.in_ok-v.v = operand_is _ c.in_ok-v.ensures in
    rw (field_known τ _ _ _ x
    (c.in_ok-found.ensures c.args.code.bounds.list τ (rw (c.typing.ensures.code, c.typing.ensures.recorded) g.known) (rw c.typing.ensures.code g.rows) (omega (arith, g.values, w.each _ x))))
    (rw x (c.find_part.ensures _ _ used S r))
