use mathlib.Core.Path.{ap, ◌∙◌, sym}
use mathlib.Core.Option.{some}
use native.Mathlib.Nat.{zero-add}
use native.Mathlib.Omega.{arith}
use lib.ListN.{get_or}
use Rattle.std.proofs.Common.{rules}
use Rattle.bytes_operands.proofs.Loops.{plain_step}
use Rattle.shelf.specs.Fits.{fits}
use Rattle.rewrite_parts.specs.Rows.{ValueAt}
use Rattle.shelf_field.proofs.Passing.{passing}
use Rattle.shelf_list.proofs.Standing.{lined_at}
use Rattle.shelf_list.proofs.Tests.{arguments_all, no_type}
use Rattle.shelf_list.proofs.arguments_fit.Goals as goal

pub returns : goal.returns
returns c = λ τ xs ts g l h m k.
    passing {Q = ValueAt c.args.typing.code.bounds.next c.args.list.bytes.now} {ask = λ k x. fits τ x (some (get_or ts k no_type))} c.args.list.count c.each_passes.ensures (λ p q e. search (rules, plain_step))
    (λ i p x r a q t. t τ x (get_or ts i no_type) g q (lined_at no_type ts _ m i (omega (arith, a, k)))) xs l h
    ∙ sym (arguments_all τ ts ts 0 xs (h ∙ sym k) (λ j. ap (λ a. get_or ts a no_type) (sym (zero-add j))))
