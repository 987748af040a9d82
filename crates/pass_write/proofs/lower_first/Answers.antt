use Rattle.std.proofs.Common.{ℕ, length, replicate, arith}
use lib.ListN.{length-replicate}
use Rattle.pass_input.proofs.Accepted.{few_fresh}
use Rattle.pass_write.proofs.lower_first.Goals as goal

pub lower_over-requires : goal.lower_over-requires
lower_over-requires c =
    let l = length-replicate {A = ℕ} 7040 0 in
    let h = c.requires.chosen in
    record { chosen = h; rows = omega (arith, l); room = λ e. omega (arith, l, few_fresh h.accepted c.args.run.settings c.requires.first) }
