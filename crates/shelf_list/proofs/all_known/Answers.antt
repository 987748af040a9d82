use Rattle.std.proofs.Common.{rules}
use Rattle.bytes_operands.proofs.Loops.{plain_step}
use Rattle.shelf.specs.Agrees.{is_known}
use Rattle.rewrite_parts.specs.Rows.{ValueAt}
use Rattle.shelf_field.proofs.Passing.{passing_every}
use Rattle.shelf_list.proofs.all_known.Goals as goal

pub returns : goal.returns
returns c = λ s types τ xs g l h.
    passing_every {Q = ValueAt c.args.typing.code.bounds.next c.args.list.bytes.now} c.args.list.count (is_known τ) c.each_passes.ensures (λ p q e. search (rules, plain_step)) (λ i p x r q t. t s types τ x g q) xs l h
