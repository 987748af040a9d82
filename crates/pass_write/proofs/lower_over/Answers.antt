use Rattle.std.proofs.Common.{ℕ, ◌≤◌, ◌-◌, length, take, drop, length-drop, ap, sym, arith}
use lib.Seq.{length-take-le}
use Rattle.std.proofs.lemmas.Result.{err_from_is_err_and}
use Rattle.pass_blocks.specs.Runs.{row_places}
use Rattle.pass_input.proofs.Accepted.{blocks_few}
use Rattle.pass_write.proofs.Answered.{fresh_part, fresh_within, measured, answers_fault}
use Rattle.pass_write.proofs.lower_over.Goals as goal

pub run_blocks-requires : goal.run_blocks-requires
run_blocks-requires c = record { near = omega arith; few = blocks_few c.requires.chosen.accepted; rows = c.requires.rows }

pub slice_bounds-trial-end : goal.slice_bounds-trial-end
slice_bounds-trial-end c =
    let few = fresh_within c.args.run _ c.requires (c.run_blocks.ensures.runs c.requires.chosen) c.in_ok-p.was in
    let work = c.run_blocks.new.work in
    let types = fresh_part work in
    sym (length-take-le _ (take (length work - row_places) (drop row_places work)) (omega (arith, few, ap length types, length-drop row_places work, c.run_blocks.auto.work)))

pub write_measured-requires : goal.write_measured-requires
write_measured-requires c =
    let h = c.requires in
    measured _ _ _ h _ _ _ c.run_blocks.ensures.put_low (c.run_blocks.ensures.runs h.chosen) c.in_ok-p.was
    (ap (take _) (fresh_part c.run_blocks.new.work))

pub returns-in_err-p : goal.returns-in_err-p
returns-in_err-p c =
    let e = err_from_is_err_and c.from_residual.result c.from_residual.ensures.1 in
    rw (e.1, e.2) (answers_fault c.requires.chosen c.args.out.now _ ((c.run_blocks.ensures.runs c.requires.chosen).refused _ c.in_err-p.was))
