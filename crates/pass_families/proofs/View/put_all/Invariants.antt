use Rattle.std.proofs.Common.{◌*◌, ◌≤◌}
use Rattle.pass_families.specs.Widths.{line_width}
use Rattle.pass_families.proofs.Putting.{Putting}
use Rattle.pass_families.proofs.View.put_all.Given as goal

abbrev pub invariant-loop-j : goal.invariant-loop-j
invariant-loop-j l =
    (l.j ≤ l.slots.count)
    × (l.to ≤ line_width * l.j)
    × Putting l.self.named l.self.code l.k.0 l.self.tables l.slots l.initial.text l.text l.to l.j
