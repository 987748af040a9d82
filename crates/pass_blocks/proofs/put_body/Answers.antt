use Rattle.std.proofs.Common.{◌∙◌, ap}
use Rattle.std.proofs.lemmas.List.Edits.{sets}
use Rattle.pass_blocks.proofs.Blocks.{begun_all}
use Rattle.pass_blocks.proofs.put_body.Goals as goal

pub returns-then-size-body : goal.returns-then-size-body
returns-then-size-body c = λ h g.
    c.copy_whole.ensures ∙ ap (sets c.args.out.now c.args.to) (begun_all _ c.args.body.now c.args.size g c.if-size-body.true)
