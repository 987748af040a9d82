use native.Mathlib.Nat.{add-zero}
use Rattle.std.proofs.Common.{rules}
use Rattle.shelf.specs.Fits.{fits}
use Rattle.shelf_list.specs.Lists.{SourceAt}
use Rattle.shelf_field.proofs.Passing.{passing_every}
use Rattle.shelf_list.proofs.sources_fit.Goals as goal

pub returns : goal.returns
returns c = λ τ o xs g e l h.
    passing_every {Q = SourceAt c.args.typing.code.bounds.next c.args.list.bytes.now} c.args.list.count (λ x. fits τ x.value o) c.each_passes.ensures (λ p q e. search (rules, add-zero)) (λ i p x r q t. t τ x.value o g q.value e) xs l h
