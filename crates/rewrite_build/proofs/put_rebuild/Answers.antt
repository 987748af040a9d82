use Rattle.rewrite_build.proofs.Writing.{renumbered_none}
use Rattle.rewrite_build.proofs.Rebuilding.{clash_of, rebuild_clash, rebuild_made}
use Rattle.rewrite_build.proofs.put_rebuild.Goals as goal

pub returns-then-array_clashes-clause-of_table : goal.returns-then-array_clashes-clause-of_table
returns-then-array_clashes-clause-of_table c = λ most τ h k l xs r n m.
    let b = clash_of most τ _ _ _ _ c.type_row.ensures h k l xs _ (λ i o j U b e. c.array_clashes.ensures i o j U b e xs n) in
    rebuild_clash τ c.args.d xs _ _ c.args.out.now c.args.to c.args.to _ b c.if-array_clashes.true

pub returns-clause-of_table : goal.returns-clause-of_table
returns-clause-of_table c = λ most τ h k l xs r n m.
    let b = clash_of most τ _ _ _ _ c.type_row.ensures h k l xs _ (λ i o j U b e. c.array_clashes.ensures i o j U b e xs n) in
    rebuild_made τ c.args.d xs _ _ _ _ _ _ b c.if-array_clashes.false
    (rw renumbered_none at (c.put_numbered.ensures.of_table most τ h k l xs r n m))
