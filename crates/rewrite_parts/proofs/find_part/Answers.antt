use Rattle.std.proofs.Common.{◌∙◌, sym}
use borrow.Author.Tests.{ltb-true, ltb-false}
use Rattle.std.proofs.lemmas.List.{get_or_default}
use Rattle.rewrite_parts.proofs.Tables.{part_nowhere, part_past, part_there}
use Rattle.rewrite_parts.proofs.find_part.Goals as goal

pub returns-then-not-tracked : goal.returns-then-not-tracked
returns-then-not-tracked c =
    λ next s used S r. part_nowhere (S _) _ (sym (c.tracked.ensures next s _ used S r) ∙ c.if-not-tracked.true)

pub returns-in_err-place : goal.returns-in_err-place
returns-in_err-place c =
    λ next s used S r. rw c.from_residual.ensures
    (part_past (S _) _ (λ xs e. c.row.ensures.parts_stand next s _ used S xs r e) (ltb-false _ _ (sym c.in_err-place.ensures.lookup.0)))

pub returns : goal.returns
returns c =
    let l = ltb-true _ _ (sym c.in_ok-place.ensures.lookup.0) in
    λ next s used S r. rw (c.in_ok-place.ensures.lookup.1 ∙ get_or_default _ _ _ 0 l)
    (part_there (S _) _ (λ xs e. c.row.ensures.parts_stand next s _ used S xs r e)
    (sym (c.tracked.ensures next s _ used S r) ∙ c.if-not-tracked.false) l)
