use Rattle.std.proofs.Common.{refl, arith, rules}
use Rattle.std.specs.Bool.{⊤}
use Rattle.std.proofs.lemmas.Iterator.{YieldsList-from_range, cases_from_any}
use Rattle.fold_cross.proofs.Idle.{IdleAt, idle_all}
use Rattle.fold_cross.proofs.has_build.Goals as goal

pub returns : goal.returns
returns c =
    let a = c.args in
    λ e. idle_all a.code a.slots a.eligible.now (rw e at
    (cases_from_any _ _ c.any.result (λ k. ⊤) (IdleAt a.code a.slots a.eligible.now) c.any.ensures.ran
    (YieldsList-from_range 0 a.slots.count a.slots.count refl (omega arith)) (λ x q k. tt) (λ x q k. search rules)))
