use mathlib.Core.Path.{ap, sym, ◌∙◌}
use Rattle.mir.specs.Kind.{build_kind}
use Rattle.fold_copies.proofs.Fields.{headed}
use Rattle.fold_cross.proofs.Builds.{one_of_three, found_none, found_build}
use Rattle.fold_cross.proofs.eligible_build.Goals as goal

pub returns-then-not-is_build : goal.returns-then-not-is_build
returns-then-not-is_build c =
    found_none c.args.code c.args.slot c.args.eligible.now (sym (ap build_kind c.in_ok-kind.ensures) ∙ sym c.is_build.ensures ∙ c.if-not-is_build.true)

pub returns : goal.returns
returns c =
    let a = c.args in
    λ i h. rw c.then_some.ensures (found_build a.code.bounds _ _ _ c.dest-dest.result a.eligible.now _ c.own_fields-own.ensures
    c.dest-dest.ensures c.flag.ensures (one_of_three _ (sym (ap build_kind c.in_ok-kind.ensures) ∙ sym c.is_build.ensures ∙ c.if-not-is_build.false)) i
    (headed a.code.bounds a.code.bytes.now a.code.facts.now a.slot i c.instruction.ensures h))
