use Rattle.std.proofs.Common.{sym, false, arith}
use lib.ListN.{length-replicate}
use lib.Seq.{length-take-le}
use Rattle.table.proofs.Flags.{none_stands}
use Rattle.pass_input.proofs.Accepted.{many_blocks, next_few, fits, coded}
use Rattle.pass_keep.proofs.Untouched.{same_buildless, chosen, same_chosen}
use Rattle.pass_lower.proofs.lower_read.Goals as goal

pub lower_same-requires : goal.lower_same-requires
lower_same-requires c =
    let a = c.requires.accepted in
    same_buildless a c.requires.small
    (c.any_builds.ensures c.if-not-any_builds.true c.args.code.bounds c.args.code.bytes.now a.routine.blocks a.facts_of.code (sym (many_blocks a)))

pub choose_folds-requires : goal.choose_folds-requires
choose_folds-requires c = next_few c.requires.accepted

pub slice_bounds-any-end : goal.slice_bounds-any-end
slice_bounds-any-end c = sym (length-take-le 288 c.choose_folds.new.choice (omega (arith, c.choose_folds.auto.choice)))

pub lower_same-requires-then-not-any : goal.lower_same-requires-then-not-any
lower_same-requires-then-not-any c =
    let a = c.requires.accepted in
    same_chosen (chosen a c.requires.small (c.choose_folds.ensures a.routine (coded a) (fits a) (omega (arith, length-replicate 320 false))))
    (none_stands _ c.any.ensures c.if-not-any.true)

pub lower_folded-requires : goal.lower_folded-requires
lower_folded-requires c =
    let a = c.requires.accepted in
    chosen a c.requires.small (c.choose_folds.ensures a.routine (coded a) (fits a) (omega (arith, length-replicate 320 false)))
