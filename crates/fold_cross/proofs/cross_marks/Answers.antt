use Rattle.fold_cross.proofs.Single.{single_crosses}
use Rattle.std.proofs.lemmas.List.{take-replicate}
use Rattle.fold_cross.proofs.cross_marks.Goals as goal

pub returns : goal.returns
returns c = λ σ τ ks k. c.cross_blocks.ensures (take-replicate c.args.code.bounds.next 256 0 k.ground.few) σ τ ks k

pub returns-then-code-lt2 : goal.returns-then-code-lt2
returns-then-code-lt2 c =
    let a = c.args in
    single_crosses a.code a.shapes.now a.eligible.now a.marks.now c.if-code-lt2.true
