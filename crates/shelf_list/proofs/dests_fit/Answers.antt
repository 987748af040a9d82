use mathlib.Core.Path.{ap, ◌∙◌, sym}
use mathlib.Core.Option.{some}
use native.Mathlib.Nat.{zero-add}
use native.Mathlib.Omega.{arith}
use lib.ListN.{get_or}
use Rattle.std.proofs.Common.{rules}
use Rattle.mir.specs.Lookup.{recorded_type}
use Rattle.shelf.specs.Fits.{same_type}
use Rattle.shelf_field.specs.Fields.{IdAt}
use Rattle.shelf_field.proofs.Passing.{passing}
use Rattle.shelf_list.proofs.Standing.{lined_at}
use Rattle.shelf_list.proofs.Tests.{dests_all, no_type}
use Rattle.shelf_list.proofs.dests_fit.Goals as goal

pub returns : goal.returns
returns c = λ s types τ ds ts g l h m k.
    passing {Q = IdAt c.args.typing.code.bounds.next c.args.list.bytes.now} {ask = λ k d. same_type (recorded_type τ d) (some (get_or ts k no_type))} c.args.list.count c.each_passes.ensures (λ p q e. search rules)
    (λ i p x r a q t. t s types τ x (get_or ts i no_type) g q (lined_at no_type ts _ m i (omega (arith, a, k)))) ds l h
    ∙ sym (dests_all τ ts ts 0 ds (h ∙ sym k) (λ j. ap (λ a. get_or ts a no_type) (sym (zero-add j))))
