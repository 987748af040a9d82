use Rattle.std.proofs.Common.{◌≡◌, refl, ap, ◌∙◌}
use Rattle.std.specs.Prelude.{IfErr}
use Rattle.std.specs.Result.{result_ok}
use Rattle.std.proofs.lemmas.Result.{err_from_is_err_and, IfErr-at_err}
use Rattle.pass_answers.specs.declared.Refused.{Refused}
use Rattle.pass_write.proofs.Answered.{opens, headed, answers_long}
use Rattle.pass_write.proofs.write_measured.Goals as goal

pub put_opening-requires : goal.put_opening-requires
put_opening-requires c = opens c.requires

pub write_body-requires : goal.write_body-requires
write_body-requires c =
    let m = c.requires in
    headed m c.args.out.now _ _ ((c.put_opening.ensures (opens m)).fits _ (c.ok_or.ensures.ok_part ∙ ap result_ok c.in_ok-to.was))

pub returns-in_err-to : goal.returns-in_err-to
returns-in_err-to c =
    let m = c.requires in
    let none = c.ok_or.ensures.ok_part ∙ ap result_ok c.in_err-to.was in
    let told : IfErr c.ok_or.result (λ x. x ≡ Refused.NoRoom) = rw (c.ok_or.ensures.value, none) refl in
    let e = err_from_is_err_and c.from_residual.result c.from_residual.ensures.1 in
    rw (e.1, e.2, IfErr-at_err (λ x. x ≡ Refused.NoRoom) c.in_err-to.was told) (answers_long m c.args.out.now _ ((c.put_opening.ensures (opens m)).long none))

pub returns : goal.returns
returns c =
    let m = c.requires in
    c.write_body.ensures (headed m c.args.out.now _ _ ((c.put_opening.ensures (opens m)).fits _ (c.ok_or.ensures.ok_part ∙ ap result_ok c.in_ok-to.was)))
