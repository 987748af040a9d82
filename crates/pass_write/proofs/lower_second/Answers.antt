use Rattle.std.proofs.Common.{ℕ, length, replicate, arith}
use lib.ListN.{length-replicate}
use Rattle.pass_input.proofs.Accepted.{few_values}
use Rattle.pass_write.proofs.lower_second.Goals as goal

pub lower_over-requires : goal.lower_over-requires
lower_over-requires c =
    let l = length-replicate {A = ℕ} 67968 0 in
    let h = c.requires in
    record { chosen = h; rows = omega (arith, l); room = λ e. omega (arith, l, few_values h.accepted c.args.run.settings e) }
