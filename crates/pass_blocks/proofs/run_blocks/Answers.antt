use Rattle.mir.specs.Lookup.{types_in}
use Rattle.rewrite.specs.Run.{choice}
use Rattle.pass_input.proofs.Accepted.{coded}
use Rattle.pass_blocks.proofs.Blocks.{begins, runs_begun}
use Rattle.pass_blocks.proofs.run_blocks.Goals as goal

pub returns-clause-runs : goal.returns-clause-runs
returns-clause-runs c = λ h.
    let o = c.args.run.settings in
    let a = h.accepted in
    let d = c.default.ensures in
    runs_begun a o _ _ (begins _ _ _ _ _ _ _ _ d.1.0 d.1.1.0 d.1.1.1.0 d.1.1.1.1.0 d.1.1.1.1.1.0 d.1.1.1.1.1.1.0 d.1.1.1.1.1.1.1) _ _ _ _ _ _ _
    (c.put_blocks.ensures.all_put (types_in a.routine) (choice o a.routine) a.routine.blocks (coded a) h.follows)
