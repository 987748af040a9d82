use Rattle.std.proofs.Common.{◌∙◌}
use Rattle.std.specs.Prelude.{Ok}
use Rattle.pass_shelf.proofs.Shelf.{inputs}
use Rattle.pass_keep.proofs.Untouched.{same_long, same_written, counts_none}
use Rattle.pass_keep.proofs.lower_same.Goals as goal

pub returns-then-out-size : goal.returns-then-out-size
returns-then-out-size c = same_long c.requires c.args.out.now c.if-out-size.true

pub returns : goal.returns
returns c =
    let u = c.requires in
    let d = c.default.ensures in
    same_written u c.args.out.now c.if-out-size.false c.input_reason-reason.result (c.input_reason-reason.ensures u.accepted.routine (inputs c.args.code u.accepted))
    (Ok c.new.result) (c.new.ensures ∙ counts_none _ _ _ _ _ _ _ d.0 d.1.0 d.1.1.0 d.1.1.1.0 d.1.1.1.1) _ c.copy_whole.ensures
