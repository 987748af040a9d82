use mathlib.Core.Path.{ap, ◌∙◌, sym}
use native.Mathlib.Nat.{zero-add}
use Rattle.std.proofs.Common.{rules}
use Rattle.bytes_operands.proofs.Loops.{plain_step}
use Rattle.mir.specs.Lookup.{row_of}
use Rattle.mir.specs.Parts.{part_type}
use Rattle.shelf.specs.Fits.{fits}
use Rattle.rewrite_parts.specs.Rows.{ValueAt}
use Rattle.shelf_field.proofs.Passing.{passing}
use Rattle.shelf_list.proofs.Tests.{fit_all}
use Rattle.shelf_list.proofs.all_fit.Goals as goal

pub returns : goal.returns
returns c = λ τ o xs g e l h.
    let p = part_type (row_of τ o) in
    passing {Q = ValueAt c.args.typing.code.bounds.next c.args.list.bytes.now} {ask = λ k x. fits τ x (p k)} c.args.list.count c.each_passes.ensures (λ p q e. search (rules, plain_step)) (λ i p x r a q t. t τ o x g e q) xs l h
    ∙ sym (fit_all τ p p 0 xs (λ k. ap p (sym (zero-add k))))
