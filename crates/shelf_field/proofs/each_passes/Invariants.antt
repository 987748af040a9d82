use Rattle.std.proofs.Common.{◌-◌, ◌+◌, ◌*◌, ◌≤◌, Bool}
use Rattle.shelf_field.specs.Passes.{Passes}
use Rattle.shelf_field.proofs.each_passes.Given as goal

abbrev pub invariant-loop-i : goal.invariant-loop-i
invariant-loop-i g l =
    (l.here ≤ l.list.at + 16 * l.i) × ((l.i ≤ l.list.count)
    × ((r : Bool) → Passes (λ i p r. goal.T-post g l.test i p r) (λ p q. goal.E-post g l.end p q) (l.list.count - l.i) l.i l.here r
    → Passes (λ i p r. goal.T-post g l.test i p r) (λ p q. goal.E-post g l.end p q) l.list.count 0 l.list.at r))
