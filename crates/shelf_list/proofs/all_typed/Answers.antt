use Rattle.std.proofs.Common.{rules}
use Rattle.mir.specs.Lookup.{is_some, recorded_type}
use Rattle.shelf_field.specs.Fields.{IdAt}
use Rattle.shelf_field.proofs.Passing.{passing_every}
use Rattle.shelf_list.proofs.all_typed.Goals as goal

pub returns : goal.returns
returns c = λ s types τ ds g l h.
    passing_every {Q = IdAt c.args.typing.code.bounds.next c.args.list.bytes.now} c.args.list.count (λ v. is_some (recorded_type τ v)) c.each_passes.ensures (λ p q e. search rules) (λ i p x r q t. t s types τ x g q) ds l h
